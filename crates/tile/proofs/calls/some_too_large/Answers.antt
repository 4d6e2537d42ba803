use mathlib.Core.Path.{sym, ap, ◌∙◌, subst}
use mathlib.Core.Bool.{Bool, ◌||◌}
use Prim.Native.Nat.{ℕ, ◌^◌, ◌<◌}
use native.Mathlib.Numerals.{add-one}
use native.Mathlib.Omega.{arith}
use lib.ListN.{length, get_or}
use Rattle.words.specs.Loops.{some}
use Rattle.tile.specs.Tile.{too_large}
use Rattle.tile.proofs.WordBits.{large-or}
use Rattle.tile.proofs.Checks.{all_small}
use Rattle.tile.proofs.calls.some_too_large.Goals as goal

pub returns-then-depth-eq8 : goal.returns-then-depth-eq8
returns-then-depth-eq8 c =
    let a = c.args in
    sym (all_small (length a.pixels.now) a.depth a.pixels.now
    (λ i l. subst (λ (d : ℕ). get_or a.pixels.now i 0 < 2 ^ d) (sym c.if-depth-eq8.true) (omega (arith, c.type_inv.pixels i))))

pub loop-pixel-preserved : goal.loop-pixel-preserved
loop-pixel-preserved c =
    let a = c.args in
    let l = c.loop-pixel in
    let f = too_large a.depth a.pixels.now in
    large-or a.depth l.bits (get_or a.pixels.now l.pixel-index 0) ∙ ap (λ (t : Bool). t || f l.pixel-index) l.invariant ∙ ap (λ (k : ℕ). some k f) (sym (add-one l.pixel-index))
