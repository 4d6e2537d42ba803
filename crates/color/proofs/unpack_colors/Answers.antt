-- A refusal leaves the bytes as they were; otherwise they begin with the unpacked colours.
use mathlib.Core.Path.{◌≡◌, sym, ap, ◌∙◌}
use mathlib.Core.List.{List}
use Prim.Native.Nat.{ℕ, ◌*◌, ◌≤◌}
use native.Mathlib.Omega.{arith}
use lib.ListN.{length}
use Rattle.words.specs.Answers.{overwrite}
use Rattle.color.specs.Color.{unpack_says, unpacked}
use Rattle.color.specs.Inner.{four_from}
use Rattle.words.specs.Answers.{written}
use Rattle.words.proofs.Answers.{done}
use Rattle.words.proofs.Refusing.{wrote_refused}
use Rattle.color.proofs.Unpacking.{Unpacks, unpacks, four-whole, unpack-no-mode, unpacks-size, unpacks-four, unpacks-words}
use Rattle.color.proofs.unpack_colors.Goals as goal
use Rattle.color.proofs.unpack_colors.Goals.{In_ok-n, Joined-places, then-places, else-places}

-- what the checks leave
passed : (c : In_ok-n) → Unpacks c.color_places_of-places.result.mode (length c.args.bytes.now) (length c.args.out.now)
passed c =
    unpacks c.color_places_of-places.result.mode (length c.args.bytes.now) (length c.args.out.now) (sym c.in_ok-n.ensures.says)

sized : (c : In_ok-n) → c.in_ok-n.n * 4 ≡ length (unpacked c.color_places_of-places.result.mode c.args.bytes.now)
sized c = rw c.in_ok-n.ensures.count (unpacks-size c.color_places_of-places.result c.args.bytes.now)

space : (c : In_ok-n) → c.in_ok-n.n * 4 ≤ length c.args.out.now
space c =
    let l = c.color_places_of-places.result in
    let fits = rw (← l.four_is, ← l.size_is, ← c.in_ok-n.ensures.count) at (passed c).fits in
    omega arith

pub returns-in_err-try_from : goal.returns-in_err-try_from
returns-in_err-try_from c =
    let a = c.args in
    let e = c.in_err-try_from.ensures in
    wrote_refused (unpack_says a.mode (length a.bytes.now) (length a.out.now)) (unpacked a.mode a.bytes.now) a.out.now c.from_residual.result c.in_err-try_from.field-0.0
    (rw (e.0, unpack-no-mode a.mode (length a.bytes.now) (length a.out.now) e.1)) c.from_residual.ensures.1

pub get_word-word-requires : goal.get_word-word-requires
get_word-word-requires c =
    let l = c.color_places_of-places.result in
    let whole = four-whole l (length c.args.bytes.now) (length c.args.out.now) (passed (goal.at.get_word-word-requires c).In_ok-n) c.if-places.true in
    (omega arith, l.bytes.0, l.bytes.1)

pub put_four-requires : goal.put_four-requires
put_four-requires c =
    let four = rw c.if-places.true at c.in_ok-n.ensures.count in
    omega (arith, space (goal.at.put_four-requires c).In_ok-n)

pub put_colors-requires-clause-space : goal.put_colors-requires-clause-space
put_colors-requires-clause-space c = space (goal.at.put_colors-requires-clause-space c).In_ok-n

pub overflow_mul-result : goal.overflow_mul-result
overflow_mul-result c = omega (arith, space (goal.at.overflow_mul-result c).In_ok-n, c.well_formed)

-- the colours stand in front of what was there before, four of one word or one of each
lent : (c : Joined-places) → c.in_ok-n.n * 4 ≡ length (unpacked c.color_places_of-places.result.mode c.args.bytes.now)
    → c.if-places.out ≡ overwrite c.args.out.now (unpacked c.color_places_of-places.result.mode c.args.bytes.now)
lent c size =
    let a = c.args in
    let l = c.color_places_of-places.result in
    elim c.if-places.branch [
      | then-places w ↦
          w.out-is
          ∙ w.put_four.ensures
          ∙ ap (λ (x : ℕ). overwrite a.out.now (four_from l x)) w.get_word-word.ensures.0
          ∙ ap (λ (x : List ℕ). overwrite a.out.now x) (unpacks-four l a.bytes.now w.if-places.true)
      | else-places w ↦
          let n = rw w.if-places.false at c.in_ok-n.ensures.count in
          w.out-is ∙ w.put_colors.ensures ∙ rw (← size, ← unpacks-words l a.bytes.now w.if-places.false, n)
    ]

pub returns : goal.returns
returns c =
    let is = c.color_places_of-places.ensures ∙ c.in_ok-try_from.ensures.0 in
    let size = sized (goal.at.returns c).In_ok-n in
    rw (← is) (done (sym c.in_ok-n.ensures.says) (ap (λ (n : ℕ). written 0 n) size) (lent (goal.at.returns c).Joined-places size))
