use mathlib.Core.Path.{◌∙◌}
use Prim.Native.Nat.{◌+◌, ◌*◌, ◌/◌, ◌≤◌}
use native.Mathlib.Omega.{arith}
use lib.ListN.{length}
use Rattle.words.proofs.Bytes.{length-bytes}
use Rattle.words.proofs.Items.{none-at, item-inside, put_item}
use Rattle.color.specs.Color.{above}
use Rattle.color.specs.Inner.{color_word, color_bytes}
use Rattle.color.proofs.color_places.ColorPlaces.put_words.Goals as goal

pub color_word-word-requires : goal.color_word-word-requires
color_word-word-requires c =
    let a = c.args in
    record { there = omega arith; low = none-at (length a.colors.now / 4) (above a.self.top a.colors.now) c.requires.within.low c.loop-i.i c.loop-i-test.true }

pub loop-i-preserved : goal.loop-i-preserved
loop-i-preserved c =
    let a = c.args in
    let i = c.loop-i.i in
    let inv = c.loop-i.invariant in
    let inside = item-inside a.self.size (length a.colors.now / 4) i c.loop-i-test.true in
    let space : i * a.self.size + a.self.size ≤ length a.out.now = omega arith in (
      c.put_word.auto.out ∙ inv.0,
      c.put_word.ensures ∙ rw (inv.1, c.color_word-word.ensures) (put_item a.self.size (color_bytes a.self a.colors.now) (λ j. length-bytes a.self.size a.self.most (color_word a.self a.colors.now j)) i a.out.now space),
    )
