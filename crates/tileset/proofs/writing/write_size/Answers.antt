-- Sprites by tiles, the others by cells.
use mathlib.Core.Path.{sym, ap, ◌∙◌}
use Prim.Native.Nat.{ℕ, ◌*◌, ◌/◌, ◌≤◌}
use native.Mathlib.Nat.{mul-le-mul}
use native.Mathlib.Omega.{arith}
use borrow.Author.Tests.{eq-eqb, ne_eqb}
use Rattle.mode.specs.Table.{pce-sprite}
use Rattle.tileset.specs.Sets.{area}
use Rattle.tileset.specs.Writing.{write_size}
use Rattle.tileset.proofs.Sizes.{IsSet}
use Rattle.tileset.proofs.Says.{held-set}
use Rattle.tileset.proofs.WritingLaws.{held-few}
use Rattle.tileset.proofs.writing.write_size.Goals as goal
use Rattle.tileset.proofs.writing.write_size.Goals.{Start}

sound : (c : Start) → IsSet c.args.held.now.set.mode c.args.held.now.set.depth c.args.held.now.set.width c.args.held.now.set.height
sound c = held-set c.args.held.now.set _ c.args.held.now.held

bits-few : (c : Start) → area c.args.held.now.set * c.args.held.now.set.depth ≤ 4096 * 8
bits-few c = mul-le-mul ((sound c).small) ((sound c).deep)

few : (c : Start) → area c.args.held.now.set * c.args.held.now.set.depth / 8 ≤ 4096
few c = omega (arith, bits-few c)

bytes-few : (c : Start) → c.args.held.now.set.stored * (area c.args.held.now.set * c.args.held.now.set.depth / 8) ≤ 65535 * 4096
bytes-few c = mul-le-mul (held-few c.args.held.now.set _ c.args.held.now.held) (few c)

cells-few : (c : Start) → {count : ℕ} → count ≤ 8390400 → count * (c.args.held.now.set.depth * 8) ≤ 8390400 * 64
cells-few c le = mul-le-mul {m₂ = 64} le (omega (arith, (sound c).deep))

pub overflow_mul-size : goal.overflow_mul-size
overflow_mul-size c = omega (arith, (sound (goal.at.overflow_mul-size c).Start).small)

pub overflow_mul-size-then-set-number : goal.overflow_mul-size-then-set-number
overflow_mul-size-then-set-number c = omega (arith, bits-few (goal.at.overflow_mul-size-then-set-number c).Start)

pub overflow_mul-result : goal.overflow_mul-result
overflow_mul-result c = omega (arith, bytes-few (goal.at.overflow_mul-result c).Start)

pub overflow_cast-result : goal.overflow_cast-result
overflow_cast-result c = omega (arith, bytes-few (goal.at.overflow_cast-result c).Start)

pub returns-then-set-number : goal.returns-then-set-number
unfolding write_size
returns-then-set-number c = rw (eq-eqb _ pce-sprite (c.if-set-number.true ∙ c.number.ensures.0))

pub overflow_mul-result-2 : goal.overflow_mul-result-2
overflow_mul-result-2 c = omega (arith, (sound (goal.at.overflow_mul-result-2 c).Start).deep)

pub overflow_mul-result-3 : goal.overflow_mul-result-3
overflow_mul-result-3 c = omega (arith, cells-few (goal.at.overflow_mul-result-3 c).Start c.cell_count.ensures.1)

pub returns : goal.returns
unfolding write_size
returns c = rw (ne_eqb _ pce-sprite (λ e. c.if-set-number.false (e ∙ sym c.number.ensures.0))) (ap (λ (n : ℕ). n * (c.args.held.now.set.depth * 8)) c.cell_count.ensures.0)
