-- A refusal leaves the bytes as they were; otherwise they begin with the packed colours.
use mathlib.Core.Path.{◌≡◌, sym, ap, ◌∙◌}
use Prim.Native.Nat.{ℕ, ◌≤◌}
use native.Mathlib.Omega.{arith}
use lib.ListN.{length}
use Rattle.words.proofs.Loops.{sets-front}
use Rattle.color.specs.Color.{pack_says, packed}
use Rattle.words.specs.Answers.{written}
use Rattle.words.proofs.Answers.{done}
use Rattle.words.proofs.Refusing.{wrote_refused}
use Rattle.color.proofs.Packing.{Packs, packs, four-within, words-within, pack-no-mode, length-packed, packs-size, packs-four, packs-words}
use Rattle.color.proofs.pack_colors.Goals as goal
use Rattle.color.proofs.pack_colors.Goals.{In_ok-size}

-- what the checks leave
passed : (c : In_ok-size) → Packs c.color_places_of-places.result.mode c.args.colors.now (length c.args.out.now)
passed c =
    packs c.color_places_of-places.result.mode c.args.colors.now (length c.args.out.now) (sym c.in_ok-size.ensures.says)

fits : (c : In_ok-size) → length (packed c.color_places_of-places.result.mode c.args.colors.now) ≤ length c.args.out.now
fits c = rw (length-packed c.color_places_of-places.result.mode c.args.colors.now) (passed c).fits

sized : (c : In_ok-size) → c.in_ok-size.size ≡ length (packed c.color_places_of-places.result.mode c.args.colors.now)
sized c = c.in_ok-size.ensures.size ∙ packs-size c.color_places_of-places.result c.args.colors.now

pub returns-in_err-try_from : goal.returns-in_err-try_from
returns-in_err-try_from c =
    let a = c.args in
    let e = c.in_err-try_from.ensures in
    wrote_refused (pack_says a.mode a.colors.now (length a.out.now)) (packed a.mode a.colors.now) a.out.now c.from_residual.result c.in_err-try_from.field-0.0
    (rw (e.0, pack-no-mode a.mode a.colors.now (length a.out.now) e.1)) c.from_residual.ensures.1

pub four_word-requires : goal.four_word-requires
four_word-requires c =
    four-within c.color_places_of-places.result c.args.colors.now (length c.args.out.now) (passed (goal.at.four_word-requires c).In_ok-size) c.if-places.true

pub put_word-requires : goal.put_word-requires
put_word-requires c =
    let l = c.color_places_of-places.result in
    let size = rw c.if-places.true at (packs-size l c.args.colors.now) in
    (omega (arith, fits (goal.at.put_word-requires c).In_ok-size), l.bytes.0, l.bytes.1)

pub put_words-requires-clause-within : goal.put_words-requires-clause-within
put_words-requires-clause-within c =
    words-within c.color_places_of-places.result c.args.colors.now (length c.args.out.now) (passed (goal.at.put_words-requires-clause-within c).In_ok-size)

pub put_words-requires-clause-space : goal.put_words-requires-clause-space
put_words-requires-clause-space c =
    let size = rw c.if-places.false at (packs-size c.color_places_of-places.result c.args.colors.now) in
    rw size (fits (goal.at.put_words-requires-clause-space c).In_ok-size)

pub returns-then-places : goal.returns-then-places
returns-then-places c =
    let a = c.args in
    let l = c.color_places_of-places.result in
    let is = c.color_places_of-places.ensures ∙ c.in_ok-try_from.ensures.0 in
    let passed = (goal.at.returns-then-places c).In_ok-size in
    rw (← is)
    (done (sym c.in_ok-size.ensures.says) (ap (λ (n : ℕ). written 0 n) (sized passed))
    (c.put_word.ensures ∙ rw (c.four_word.ensures, packs-four l a.colors.now c.if-places.true) (sets-front a.out.now (packed l.mode a.colors.now) (fits passed))))

pub returns-else-places : goal.returns-else-places
returns-else-places c =
    let a = c.args in
    let l = c.color_places_of-places.result in
    let is = c.color_places_of-places.ensures ∙ c.in_ok-try_from.ensures.0 in
    let ok = (goal.at.returns-else-places c).In_ok-size in
    let size = rw c.if-places.false at (packs-size l a.colors.now) in
    let low = rw (← l.top_is) at (passed ok).low in
    rw (← is)
    (done (sym c.in_ok-size.ensures.says) (ap (λ (n : ℕ). written 0 n) (sized ok)) (c.put_words.ensures ∙ rw (packs-words l a.colors.now c.if-places.false low, size)))
