-- Each arm has the places that its mode's fields give.
use mathlib.Core.Path.{◌≡◌, sym, ap, ◌∙◌}
use mathlib.Core.Bool.{Bool}
use Prim.Native.Nat.{ℕ}
use native.Mathlib.Omega.{arith}
use Rattle.words.specs.Inner.{bits_for, start_of}
use Rattle.mode.specs.Table.{row}
use Rattle.color.specs.Color.{coloring}
use Rattle.color.proofs.Places.{some-bytes, few-bits, start-inside}
use Rattle.color.proofs.color_places_of.Goals as goal
use Rattle.color.proofs.color_places_of.Goals.{After-top}
use Rattle.color.proofs.color_places_of.Goals.{in-SNES, in-SNES_MODE7, in-GB, in-GBC, in-GBA, in-GBA_AFFINE, in-MD, in-SMS, in-GG, in-PCE, in-PCE_SPRITE, in-NGP, in-NGPC, in-WS, in-WSC, in-WSC_PACKED}

-- the table's row of a mode
abbrev Row : Type 0
Row = Bool × Bool × ℕ × Bool × ℕ × ℕ × ℕ × ℕ × ℕ

abbrev row_of : ℕ → Row
row_of m =
    let c = coloring m in
    let start : ℕ → ℕ = λ k. start_of 0 k c.fields in
    (c.gray, c.four, c.size, c.most, bits_for 0 c.fields, start 0, start 1, start 2, start 3)

arm : (k : ℕ) {m : ℕ} {t : Row} → t ≡ row_of k → m ≡ k → t ≡ row_of m
arm k e is = e ∙ ap row_of (sym is)

right : (c : After-top) → c.match-m.gray ≡ row_of c.number.result
unfolding coloring
right c = elim c.match-m.branch [ in-SNES w ↦ arm 0 w.gray-is (omega arith) | in-SNES_MODE7 w ↦ arm 1 w.gray-is (omega arith) | in-GB w ↦ arm 2 w.gray-is (omega arith) | in-GBC w ↦ arm 3 w.gray-is (omega arith) | in-GBA w ↦ arm 4 w.gray-is (omega arith) | in-GBA_AFFINE w ↦ arm 5 w.gray-is (omega arith) | in-MD w ↦ arm 6 w.gray-is (omega arith) | in-SMS w ↦ arm 7 w.gray-is (omega arith) | in-GG w ↦ arm 8 w.gray-is (omega arith) | in-PCE w ↦ arm 9 w.gray-is (omega arith) | in-PCE_SPRITE w ↦ arm 10 w.gray-is (omega arith) | in-NGP w ↦ arm 11 w.gray-is (omega arith) | in-NGPC w ↦ arm 12 w.gray-is (omega arith) | in-WS w ↦ arm 13 w.gray-is (omega arith) | in-WSC w ↦ arm 14 w.gray-is (omega arith) | in-WSC_PACKED w ↦ arm 15 w.gray-is (omega arith) ]

pub invariant_of-result : goal.invariant_of-result
invariant_of-result c =
    let m = c.number.result in
    let h = c.number.ensures.1 in
    let e = right c in
    let top : c.top.result ≡ (row m).top = rw c.number.ensures.0 c.top.ensures in
    let size : c.match-m.gray.2 ≡ (coloring m).size = ap (λ (r : Row). r.2) e in
    let bits : c.match-m.gray.4 ≡ bits_for 0 (coloring m).fields = ap (λ (r : Row). r.4) e in
    let first : c.match-m.gray.5 ≡ start_of 0 0 (coloring m).fields = ap (λ (r : Row). r.5) e in
    let second : c.match-m.gray.6 ≡ start_of 0 1 (coloring m).fields = ap (λ (r : Row). r.6) e in
    let third : c.match-m.gray.7 ≡ start_of 0 2 (coloring m).fields = ap (λ (r : Row). r.7) e in
    let fourth : c.match-m.gray.8 ≡ start_of 0 3 (coloring m).fields = ap (λ (r : Row). r.8) e in
    record {
      is_mode = h;
      gray_is = ap (λ (r : Row). r.0) e;
      four_is = ap (λ (r : Row). r.1) e;
      size_is = size;
      most_is = ap (λ (r : Row). r.3) e;
      top_is = top;
      bits_are = bits;
      first_is = first;
      second_is = second;
      third_is = third;
      fourth_is = fourth;
      bytes = rw size (some-bytes m h);
      component = rw (top, bits) (few-bits m h);
      inside = rw (first, second, third, fourth) (start-inside m h 0 (omega arith), start-inside m h 1 (omega arith), start-inside m h 2 (omega arith), start-inside m h 3 (omega arith));
    }
