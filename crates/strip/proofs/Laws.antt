-- "If every strip is accepted, with the same buffer lengths throughout, tiles, map and counts equal the whole conversion for every cutting into strips."
-- Assumes nothing.
use mathlib.Core.Path.{◌≡◌, refl, sym, ap, ◌∙◌, subst}
use mathlib.Core.Bool.{Bool, true, false, not, ◌&&◌}
use mathlib.Core.List.{List, [], ◌∷◌, ◌++◌, append-nil, append_assoc}
use mathlib.Core.Logic.{inl, inr}
use Prim.Native.Nat.{ℕ, zero, suc, ◌+◌, ◌-◌, ◌*◌, ◌/◌, ◌%◌, ◌^◌, ◌<◌, ◌≤◌}
use native.Mathlib.Nat.{suc-ne-zero, mul_comm, mul-add, mul_left_comm, le_of_mul-le-mul_left, le_trans, div-add-mod'}
use native.Mathlib.Omega.{arith}
use lib.Dec.{ltb, eqb}
use lib.ListN.{length, length-append}
use borrow.Author.Tests.{le-ltb, ltb-true, ltb-false}
use Rattle.words.specs.Answers.{◌when◌, first_applying, unless, overwrite}
use Rattle.words.proofs.Answers.{all-passed, not-given, when-done, when-refused}
use Rattle.words.proofs.Order.{first-append}
use Rattle.words.proofs.Loops.{sets-front}
use Rattle.mode.specs.Table.{row}
use Rattle.tileset.specs.Sets.{room_under}
use Rattle.tileset.proofs.Says.{room_of, room_within}
use Rattle.picture.specs.Converting.{places, stored_of, need_of, discarded_of, tile_bytes_of, map_bytes_of, picture_room, size_checks, size_says, pictured, answer_of, convert_says, Converts}
use Rattle.picture.specs.Inner.{asked_says}
use Rattle.picture.specs.declared.Settings.{Settings}
use Rattle.picture.specs.declared.Picture.{Picture}
use Rattle.picture.proofs.Cells.{some-8}
use Rattle.picture.proofs.Laws.{bytes_fit}
use Rattle.picture.proofs.Checks.{IsSize, asked-0, convert-0, convert-passed, asked-picture, asked-map}
use Rattle.picture.proofs.Room.{convert-full}
use Rattle.picture.proofs.Converted.{stored-need}
use Rattle.strip.specs.Strips.{rows_of, run_at, palette_check, start_says, take_says, end_says, ended}
use Rattle.strip.specs.Calls.{Between, begun, Strip, Kept, Strips, last_of, accepted, pixels_of, WholeRows, AllAccepted, FirstRefused}
use Rattle.strip.proofs.Joined.{stored-both, grows}
use Rattle.strip.proofs.Says.{start-passed, settings-0, settings-parts, settings-sized, counts-no, end-early, end-palette}
use Rattle.strip.proofs.Standing.{IsRun, Stands, standing, stands-begun, stands-next, strip-says, bytes-long, entries-long}

module _ (z : Settings) (s : IsRun z) (tiles map : List ℕ) where
  -- ---- where a run stands

  abbrev StandsAt : ℕ → List ℕ → Between → Type 0
  StandsAt n xs b = Stands z s tiles map n xs b

  -- what a strip is answered, and how a refused one leaves all as it was
  module _ {n : ℕ} {xs : List ℕ} {b : Between} (st : StandsAt n xs b) (c : Strip) (took : Kept b c) where
    abbrev here : Between
    here = standing z s tiles map n xs

    abbrev due : ℕ
    due = take_says here.run c.pixels here.tiles (length here.map)

    took-here : Kept here c
    took-here = subst (λ (x : Between). Kept x c) st.is took

    answered : c.answer.refusal ≡ due
    answered = ap (λ (x : Picture). x.refusal) took-here.converts.answer

    stands-taken : c.answer.refusal ≡ 0 → StandsAt (n + length c.pixels / (64 * z.columns)) (xs ++ c.pixels) c.left
    stands-taken e = stands-next z s tiles map n xs c.pixels st.low st.whole st.room (sym answered ∙ e) c refl took-here

    stands-refused : (c.answer.refusal ≡ 0 → ⊥) → StandsAt n xs c.left
    stands-refused h =
        let no : due ≡ 0 → ⊥ = λ e. h (answered ∙ e) in
        record {
          whole = st.whole;
          low = st.low;
          room = st.room;
          space = st.space;
          is = left-eq (took-here.run ∙ when-refused due _ here.run no) (took-here.converts.lent ∙ when-refused due _ here.tiles no) (took-here.converts.also_lent ∙ when-refused due _ here.map no);
        }
      where
        left-eq : c.left.run ≡ here.run → c.left.tiles ≡ here.tiles → c.left.map ≡ here.map → c.left ≡ here
        left-eq p q r = rw (← p, ← q, ← r)

  -- any strips, refused ones too: the run stands at the pixels of those that were accepted
  one-strip : (k : ℕ) (c : Strip) {n : ℕ} {xs : List ℕ} {b : Between} → StandsAt n xs b → Kept b c → c.answer.refusal ≡ k → (i : ℕ) × StandsAt i (xs ++ unless k c.pixels []) c.left
  one-strip zero c {n} st took e = (n + length c.pixels / (64 * z.columns), stands-taken st c took e)
  one-strip (suc k) c {n} {xs} st took e =
      (n, subst (λ (l : List ℕ). StandsAt n l c.left) (sym (append-nil xs)) (stands-refused st c took (λ o. suc-ne-zero k (sym e ∙ o))))

  pub run-stands : (ss : List Strip) {n : ℕ} {xs : List ℕ} {b : Between} → StandsAt n xs b → Strips b ss → (i : ℕ) × StandsAt i (xs ++ accepted ss) (last_of b ss)
  run-stands [] {n} {xs} {b} st all = (n, subst (λ (l : List ℕ). StandsAt n l b) (sym (append-nil xs)) st)
  run-stands (c ∷ ss) {xs = xs} st all =
      let next = one-strip c.answer.refusal c st all.0 refl in
      let last = run-stands ss next.1 all.1 in
      (last.0, subst (λ (l : List ℕ). StandsAt last.0 l (last_of c.left ss)) (append_assoc xs (unless c.answer.refusal c.pixels []) (accepted ss)) last.1)

  -- ---- the end

  room-loose : (len : ℕ) → picture_room z len ≤ room_under z.limit (2 ^ (row z.mode).tile) []
  unfolding picture_room
  room-loose len =
      let w = room_within z.limit (2 ^ (row z.mode).tile) (len / (z.depth * 8) ∷ []) in
      room_of [] (record { first = w.first; others = tt; limited = w.limited })

  -- "Asking to end early is refused": 19 while rows are missing, and then the end is accepted
  end-case : (n k d : ℕ) → n ≤ z.rows → k ≤ room_under z.limit (2 ^ (row z.mode).tile) [] → (early : Bool) → ltb n z.rows ≡ early → end_says (run_at z n k d) ≡ 19 when early
  end-case n k d low room true e =
      sym (end-early (run_at z n k d) s.settings (counts-no (run_at z n k d) _ room low) (ltb-true n z.rows e))
  end-case n k d low room false e =
      sym (end-palette (run_at z n k d) s.settings (counts-no (run_at z n k d) _ room low) (ltb-false n z.rows e)) ∙ s.palette

  pub end-says : {n : ℕ} {xs : List ℕ} {b : Between} → StandsAt n xs b → end_says b.run ≡ 19 when ltb n z.rows
  end-says {n} {xs} st =
      ap (λ (x : Between). end_says x.run) st.is
      ∙ end-case n (length (stored_of 8 8 (rows_of z n) xs)) (discarded_of 8 8 (rows_of z n) xs) st.low
      (le_trans st.room (room-loose (length tiles))) (ltb n z.rows) refl

  -- ---- all rows have come: the end's answer and the buffers meet the promise of the whole conversion

  module _ {xs : List ℕ} {b : Between} (st : StandsAt z.rows xs b) where
    abbrev sized : IsSize z.mode z.depth z.columns z.rows
    sized = settings-sized z s.settings

    asked : asked_says z (length xs) (length map) ≡ 0
    asked =
        let parts = settings-parts z s.settings in
        sym (asked-0 z (length xs) (length map) parts.0 parts.1 st.whole s.palette (st.space sized.tall))

    pub whole-accepted : convert_says z xs (length tiles) (length map) ≡ 0
    whole-accepted = convert-0 z xs (length tiles) (length map) asked (omega (arith, stored-need 8 8 some-8 z xs, st.room))

    ended_is : ended 0 b.run ≡ answer_of 0 z xs
    ended_is =
        ap (λ (x : Between). ended 0 x.run) st.is
        ∙ ap (λ (k : ℕ). pictured 0 (length (stored_of 8 8 z xs)) (discarded_of 8 8 z xs) k (places z * (row z.mode).entry)) (sym (bytes-long z s z.rows xs st.low st.whole))
        ∙ ap (λ (k : ℕ). pictured 0 (length (stored_of 8 8 z xs)) (discarded_of 8 8 z xs) (length (tile_bytes_of z xs)) k) (sym (entries-long z s z.rows xs st.low st.whole))

    no-early : 19 when ltb z.rows z.rows ≡ 0
    no-early = ap (λ (e : Bool). 19 when e) (le-ltb z.rows z.rows (omega arith))

    ends : end_says b.run ≡ 0
    ends = end-says st ∙ no-early

    pub stands-converted : Converts (convert_says z xs (length tiles) (length map)) z xs tiles map (ended (end_says b.run) b.run) b.tiles b.map
    stands-converted =
        let fit = bytes_fit z xs (length tiles) (length map) whole-accepted in
        let n = convert_says z xs (length tiles) (length map) in
        record {
          answer = ap (λ (k : ℕ). ended k b.run) ends ∙ ended_is ∙ ap (λ (k : ℕ). answer_of k z xs) (sym whole-accepted);
          lent = ap (λ (x : Between). x.tiles) st.is ∙ sets-front tiles (tile_bytes_of z xs) fit.0 ∙ sym (when-done n (overwrite tiles (tile_bytes_of z xs)) tiles whole-accepted);
          also_lent = ap (λ (x : Between). x.map) st.is ∙ sets-front map (map_bytes_of z xs) fit.1 ∙ sym (when-done n (overwrite map (map_bytes_of z xs)) map whole-accepted);
        }

  -- ---- a cutting of a picture into strips of whole rows

  module _ (ps : List ℕ) (long : length ps ≡ 64 * places z) (space : places z * (row z.mode).entry ≤ length map) where
    abbrev full : Bool
    full = ltb (picture_room z (length tiles)) (need_of 8 8 z ps)

    -- the strip c, and the rest of the picture after it
    module _ (n : ℕ) (xs rest : List ℕ) (c : Strip) (whole : length xs ≡ 64 * (z.columns * n))
        (rows : length c.pixels % (64 * z.columns) ≡ 0) (joined : (xs ++ c.pixels) ++ rest ≡ ps) where
      abbrev m : ℕ
      m = length c.pixels / (64 * z.columns)

      wide : 0 < z.columns
      wide = (settings-sized z s.settings).some

      strip-long : length c.pixels ≡ 64 * (z.columns * m)
      strip-long = omega (arith, div-add-mod' (length c.pixels) (64 * z.columns), rows, mul_left_comm m 64 z.columns, mul_comm m z.columns)

      both_long : length (xs ++ c.pixels) ≡ 64 * (z.columns * (n + m))
      both_long = omega (arith, length-append xs c.pixels, whole, strip-long, mul-add z.columns n m)

      inside : n + m ≤ z.rows
      inside =
          le_of_mul-le-mul_left {k = z.columns}
          (omega (arith, both_long, long, length-append (xs ++ c.pixels) rest, ap (λ (l : List ℕ). length l) joined)) wide

      -- what is stored of its rows and those before is no more than the picture's need
      within : length (stored_of 8 8 (rows_of z (n + m)) (xs ++ c.pixels)) ≤ need_of 8 8 z ps
      within =
          let last = z.rows - (n + m) in
          let sum : n + m + last ≡ z.rows = omega (arith, inside) in
          let all = stored-both z (n + m) last (xs ++ c.pixels) rest wide both_long in
          omega (
            arith,
            grows z (n + m) last (xs ++ c.pixels) rest wide both_long,
            ap (λ (ts : List (List ℕ)). length ts) (all ∙ ap (λ (k : ℕ). stored_of 8 8 (rows_of z k) ((xs ++ c.pixels) ++ rest)) sum ∙ ap (stored_of 8 8 z) joined),
            stored-need 8 8 some-8 z ps,
          )

      strip-number : {b : Between} → StandsAt n xs b → Kept b c → 0 < length c.pixels
          → c.answer.refusal ≡ 12 when ltb (picture_room z (length tiles)) (length (stored_of 8 8 (rows_of z (n + m)) (xs ++ c.pixels)))
      strip-number st took some = answered st c took ∙ strip-says z s tiles map n xs c.pixels st.low st.whole st.room some rows inside space

    -- all of it
    all-rows : {n : ℕ} {xs : List ℕ} {b : Between} → StandsAt n xs b → xs ++ [] ≡ ps → StandsAt z.rows ps b
    all-rows {n} {xs} {b} st joined =
        let same : xs ≡ ps = sym (append-nil xs) ∙ joined in
        let bytes : 64 * (z.columns * n) ≡ 64 * (z.columns * z.rows) = sym st.whole ∙ ap (λ (l : List ℕ). length l) same ∙ long in
        let up : z.rows ≤ n = le_of_mul-le-mul_left {k = z.columns} (omega arith) (settings-sized z s.settings).some in
        subst (λ (l : List ℕ). StandsAt z.rows l b) same (subst (λ (k : ℕ). StandsAt k xs b) (let e : n ≡ z.rows = omega (arith, st.low) in e) st)

    -- where the picture has room, every strip is accepted
    pub cut-accepted : need_of 8 8 z ps ≤ picture_room z (length tiles) → (ss : List Strip) {n : ℕ} {xs : List ℕ} {b : Between} → StandsAt n xs b → WholeRows z ss → Strips b ss
        → xs ++ pixels_of ss ≡ ps → AllAccepted ss × StandsAt z.rows ps (last_of b ss)
    cut-accepted enough [] st rows all joined = (tt, all-rows st joined)
    cut-accepted enough (c ∷ ss) {n} {xs} st rows all joined =
        let then = append_assoc xs c.pixels (pixels_of ss) ∙ joined in
        let fits = within n xs (pixels_of ss) c st.whole rows.0.1 then in
        let stored = length (stored_of 8 8 (rows_of z (n + length c.pixels / (64 * z.columns))) (xs ++ c.pixels)) in
        let done : c.answer.refusal ≡ 0 =
        strip-number n xs (pixels_of ss) c st.whole rows.0.1 then st all.0 rows.0.0 ∙ ap (λ (b : Bool). 12 when b) (le-ltb (picture_room z (length tiles)) stored (omega (arith, fits, enough))) in
        let rest = cut-accepted enough ss (stands-taken st c all.0 done) rows.1 all.1 then in
        ((done, rest.0), rest.1)

    -- where it has not, the first strip that is not accepted is refused for room
    full-case : (b : Bool) (c : Strip) (ss : List Strip) → c.answer.refusal ≡ 12 when b → (c.answer.refusal ≡ 0 → FirstRefused 12 ss) → FirstRefused 12 (c ∷ ss)
    full-case true c ss e rest = inl e
    full-case false c ss e rest = inr (e, rest e)

    pub cut-full : picture_room z (length tiles) < need_of 8 8 z ps → (ss : List Strip) {n : ℕ} {xs : List ℕ} {b : Between} → StandsAt n xs b → WholeRows z ss → Strips b ss
        → xs ++ pixels_of ss ≡ ps → FirstRefused 12 ss
    cut-full none [] st rows all joined = absurd (let no : ⊥ = omega (arith, (all-rows st joined).room, stored-need 8 8 some-8 z ps, none) in no)
    cut-full none (c ∷ ss) {n} {xs} st rows all joined =
        let then = append_assoc xs c.pixels (pixels_of ss) ∙ joined in
        full-case (ltb (picture_room z (length tiles)) (length (stored_of 8 8 (rows_of z (n + length c.pixels / (64 * z.columns))) (xs ++ c.pixels)))) c ss
        (strip-number n xs (pixels_of ss) c st.whole rows.0.1 then st all.0 rows.0.0)
        (λ done. cut-full none ss (stands-taken st c all.0 done) rows.1 all.1 then)

-- ---- as a caller has them

-- settings that start, and those of a picture whose checks before the room's passed
started-run : (z : Settings) → start_says z ≡ 0 → IsRun z
started-run z e = let p = start-passed z e in record { settings = p.0; palette = p.1 }

asked-run : (z : Settings) (len space : ℕ) → asked_says z len space ≡ 0 → IsRun z
unfolding asked_says size_says
asked-run z len space e =
    let size = size_checks z.mode z.depth z.columns z.rows in
    let flips = z.flip && eqb (row z.mode).flips 0 in
    let others = 5 when flips ∷ 7 when not (eqb len (64 * places z)) ∷ palette_check z ∷ 11 when ltb space (places z * (row z.mode).entry) ∷ [] in
    let passed = all-passed (first_applying size ∷ others) (sym (first-append size others) ∙ e) in
    record { settings = sym (settings-0 z (passed 0) (not-given 4 flips (passed 1))); palette = passed 3 }

module _ (z : Settings) (tiles map : List ℕ) (ss : List Strip) where
  abbrev pub last : Between
  last = last_of (begun z tiles map) ss

  -- the answer of the end, and both buffers as the last strip left them
  abbrev pub AsWhole : List ℕ → Type 0
  AsWhole pixels =
      (convert_says z pixels (length tiles) (length map) ≡ 0)
      × Converts (convert_says z pixels (length tiles) (length map)) z pixels tiles map (ended (end_says last.run) last.run) last.tiles last.map

  -- a run that starts and ends has converted the pixels that it accepted, however they were cut, and whatever it refused between
  pub strips-convert : start_says z ≡ 0 → Strips (begun z tiles map) ss → end_says last.run ≡ 0 → AsWhole (accepted ss)
  strips-convert starts all ends =
      let s = started-run z starts in
      let at = run-stands z s tiles map ss (stands-begun z s tiles map) all in
      let rows : at.0 ≡ z.rows = all_come z at.0 at.1.low (sym (end-says z s tiles map at.1) ∙ ends) in
      let st = subst (λ (k : ℕ). Stands z s tiles map k (accepted ss) last) rows at.1 in
      (whole-accepted z s tiles map st, stands-converted z s tiles map st)
    where
      all_come : (z : Settings) (n : ℕ) → n ≤ z.rows → 19 when ltb n z.rows ≡ 0 → n ≡ z.rows
      all_come z n low e = omega (arith, ltb-false n z.rows (not-given 18 (ltb n z.rows) e))

  -- while rows are missing the end is refused with 19, and only then
  pub end-when : start_says z ≡ 0 → Strips (begun z tiles map) ss → end_says last.run ≡ 19 when ltb last.run.taken z.rows
  end-when starts all =
      let s = started-run z starts in
      let at = run-stands z s tiles map ss (stands-begun z s tiles map) all in
      end-says z s tiles map at.1 ∙ ap (λ (b : Between). 19 when ltb b.run.taken z.rows) (sym at.1.is)

  -- where the whole conversion is accepted, every strip of every cutting is, and the run ends
  pub strips-accepted : convert_says z (pixels_of ss) (length tiles) (length map) ≡ 0 → WholeRows z ss → Strips (begun z tiles map) ss
      → AllAccepted ss × (end_says last.run ≡ 0) × AsWhole (pixels_of ss)
  strips-accepted done rows all =
      let passed = convert-passed z (pixels_of ss) (length tiles) (length map) done in
      let s = asked-run z (length (pixels_of ss)) (length map) passed.0 in
      let cut = cut-accepted z s tiles map (pixels_of ss) (asked-picture z (length (pixels_of ss)) (length map) passed.0).whole (asked-map z (length (pixels_of ss)) (length map) passed.0)
      passed.1 ss (stands-begun z s tiles map) rows all refl in
      (cut.0, ends z s tiles map cut.1, (whole-accepted z s tiles map cut.1, stands-converted z s tiles map cut.1))

  -- where it is refused for room, some strip of every cutting is, and it is the first that is refused
  pub strips-full : convert_says z (pixels_of ss) (length tiles) (length map) ≡ 12 → WholeRows z ss → Strips (begun z tiles map) ss → FirstRefused 12 ss
  strips-full refused rows all =
      let full = convert-full z (pixels_of ss) (length tiles) (length map) refused in
      let s = asked-run z (length (pixels_of ss)) (length map) full.0 in
      cut-full z s tiles map (pixels_of ss) (asked-picture z (length (pixels_of ss)) (length map) full.0).whole (asked-map z (length (pixels_of ss)) (length map) full.0)
      full.1 ss (stands-begun z s tiles map) rows all refl
