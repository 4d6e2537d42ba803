use mathlib.Core.Path.{◌∙◌}
use Prim.Native.Nat.{◌+◌, ◌*◌, ◌≤◌}
use native.Mathlib.Omega.{arith}
use lib.ListN.{length}
use Rattle.words.proofs.Items.{item-end, put_item}
use Rattle.color.specs.Inner.{color_from, word_from}
use Rattle.color.proofs.Unpacking.{length_from}
use Rattle.color.proofs.color_places.ColorPlaces.put_colors.Goals as goal

pub loop-i-preserved : goal.loop-i-preserved
loop-i-preserved c =
    let a = c.args in
    let i = c.loop-i.i in
    let inv = c.loop-i.invariant in
    let space : i * 4 + 4 ≤ length a.out.now = omega arith in (
      rw inv.0 (item-end a.self.size i),
      c.put_color_from.auto.out ∙ inv.1,
      c.put_color_from.ensures ∙ rw (inv.2, c.get_word-word.ensures.0, inv.0) (put_item 4 (λ k. color_from a.self (word_from a.self a.bytes.now (k * a.self.size))) (λ k. length_from a.self (word_from a.self a.bytes.now (k * a.self.size))) i a.out.now space),
    )
