use mathlib.Core.Path.{refl, sym, ap, ◌∙◌}
use mathlib.Core.List.{List}
use Prim.Native.Nat.{ℕ, ◌+◌, ◌*◌, ◌/◌, ◌%◌}
use native.Mathlib.Numerals.{add-one}
use lib.ListN.{length, get_or}
use lib.Seq.{sets, length-sets}
use Rattle.words.specs.Inner.{bytes_in}
use Rattle.tile.specs.Inner.{stored_at}
use Rattle.tile.proofs.sprites.put_cell_rows.Goals as goal
use Rattle.tile.proofs.sprites.put_cell_rows.Goals.{In-loop-t}

pub loop-t-init : goal.loop-t-init
unfolding stored_at
loop-t-init c = (refl, refl)

pub loop-t-preserved : goal.loop-t-preserved
unfolding stored_at
loop-t-preserved c =
    let a = c.args in
    let t = c.loop-t.t in
    let place : ℕ → ℕ = λ t. a.at + t / 2 * a.width + t % 2 * 8 in
    let word : ℕ → ℕ = λ t. get_or a.ws.now t 0 in
    let is = c.put_bytes.ensures in (
      ap length is ∙ length-sets c.loop-t.out (place t) (bytes_in (word t)) ∙ c.loop-t.invariant.0,
      is ∙ ap (λ (o : List ℕ). sets o (place t) (bytes_in (word t))) c.loop-t.invariant.1
          ∙ ap (λ (n : ℕ). stored_at n place word a.out.now) (sym (add-one t)),
    )
