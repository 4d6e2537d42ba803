-- A look-up among the common tiles and then the own, and the part of what it finds.
-- Assumes nothing.
use mathlib.Core.Path.{◌≡◌, refl, sym, ap, ◌∙◌, subst}
use mathlib.Core.Bool.{Bool, true, false, cond}
use mathlib.Core.List.{List, [], ◌∷◌, ◌++◌}
use Prim.Native.Nat.{ℕ, suc, ◌+◌, ◌*◌, ◌-◌, ◌<◌, ◌≤◌}
use native.Mathlib.Nat.{add-zero, add-suc, add-sub_cancel_left}
use native.Mathlib.Omega.{arith}
use lib.Dec.{ltb}
use lib.ListN.{length, get_or, take, drop, length-append, length-drop, get_or-append}
use lib.Seq.{get_or-append-add, length-take-le}
use borrow.Author.Tests.{lt-ltb, le-ltb, ltb-true, ltb-false}
use Rattle.std.proofs.lemmas.List.Edits.{sets}
use Rattle.words.proofs.Items.{item-inside}
use Rattle.flip.specs.declared.Flip.{Flip}
use Rattle.std.specs.Prelude.{Option, Some, None}
use Rattle.flip.proofs.Equivalence.{Takes}
use Rattle.tileset.specs.Sets.{area}
use Rattle.tileset.specs.Finding.{cut_to, found_or, first_found, tiles_in, look_up}
use Rattle.tileset.specs.History.{set_tiles}
use Rattle.tileset.specs.declared.Set.{Set}
use Rattle.tileset.specs.declared.Logical.{Logical}
use Rattle.tileset.specs.declared.Found.{Found}
use Rattle.tileset.specs.declared.Found.TheVariants.{At, Nothing}
use Rattle.tileset.proofs.Search.{or_else, matching, look-append, look-told}
use Rattle.tileset.proofs.Stores.{tiles-long, tiles-at, cut-front}
use Rattle.std.specs.Prelude.{Result}
use Rattle.std.specs.Result.{IsErrAnd}
use Rattle.words.specs.InnerResults.{refusal_number}
use Rattle.words.specs.declared.refusal.Refusal.{Refusal}
use Rattle.words.proofs.Refusing.{refusal-not-done, passed_on}
use Rattle.title.proofs.Says.{refused-held, done_held, titled-of}
use Rattle.title.specs.declared.Hit.{Hit}
use Rattle.title.specs.Titles.{title_says, held_of, title_held, common_tiles, title_tiles, title_found, after_common, is_common, place_there, part_start, part_length, part_of}
use Rattle.title.specs.Inner.{Titled, HasPart}
use Rattle.title.specs.InnerResults.{hit_held, title_held_by}

-- ---- places among the own tiles

after-or : (m : Option Flip) (j k : ℕ) (r : Found) → found_or m (j + k) (after_common j r) ≡ after_common j (found_or m k r)
after-or (Some f) j k r = refl
after-or None j k r = refl

found_after : (test : List ℕ → Option Flip) (j k : ℕ) (xs : List (List ℕ)) → first_found test (j + k) xs ≡ after_common j (first_found test k xs)
found_after test j k [] = refl
found_after test j k (a ∷ xs) =
    ap (found_or (test a) (j + k)) (ap (λ (i : ℕ). first_found test i xs) (sym (add-suc j k)) ∙ found_after test j (suc k) xs)
    ∙ after-or (test a) j k (first_found test (suc k) xs)

-- what is found among the common tiles, and else among the own
pub look-both : (on : Bool) (w h : ℕ) (t : List ℕ) (n : ℕ) (common : List ℕ) (count : ℕ) (own : List (List ℕ))
    → look_up on w h (tiles_in n common count ++ own) t ≡ or_else (look_up on w h (tiles_in n common count) t) (after_common count (look_up on w h own t))
unfolding look_up
look-both on w h t n common count own =
    let xs = tiles_in n common count in
    look-append on w h t xs own
    ∙ ap (λ (i : ℕ). or_else (first_found (matching on w h t) 0 xs) (first_found (matching on w h t) i own)) (tiles-long n common count ∙ sym (add-zero count))
    ∙ ap (or_else (first_found (matching on w h t) 0 xs)) (found_after (matching on w h t) count 0 own)

module _ (z : Set) (count : ℕ) (common store t : List ℕ) where
  abbrev among : List (List ℕ) → Found
  among tiles = look_up z.flips z.width z.height tiles t

  both : among (title_tiles z count common store) ≡ or_else (among (common_tiles z count common)) (after_common count (among (set_tiles z store)))
  both = look-both z.flips z.width z.height t (area z) common count (set_tiles z store)

  -- "Look-up tries the common store first, then the title's own"
  pub common-first : {k : Logical} {f : Flip} → among (common_tiles z count common) ≡ At k f → among (title_tiles z count common store) ≡ At k f
  common-first e = both ∙ ap (λ (r : Found). or_else r (after_common count (among (set_tiles z store)))) e

  -- "Place numbers of own tiles start after the common count."
  pub then-own : among (common_tiles z count common) ≡ Nothing → among (title_tiles z count common store) ≡ after_common count (among (set_tiles z store))
  then-own e = both ∙ ap (λ (r : Found). or_else r (after_common count (among (set_tiles z store)))) e

-- ---- the part of what is found

module _ (z : Set) (count : ℕ) (common store : List ℕ) where
  tiles-count : length (title_tiles z count common store) ≡ count + z.stored
  tiles-count =
      length-append (common_tiles z count common) (set_tiles z store)
      ∙ ap (λ (n : ℕ). n + length (set_tiles z store)) (tiles-long (area z) common count)
      ∙ ap (λ (n : ℕ). count + n) (tiles-long (area z) store z.stored)

  -- a place among the tiles
  abbrev pub Inside : Found → Type 0
  Inside (At k f) = k.0 < count + z.stored
  Inside Nothing = Unit {0}

  inside-by : (p : List ℕ) (r : Found) → look_up z.flips z.width z.height (title_tiles z count common store) p ≡ r → Inside r
  inside-by p (At k f) e = omega (arith, (look-told z.flips z.width z.height p (title_tiles z count common store) e).0, tiles-count)
  inside-by p Nothing e = tt

  pub found_inside : (p : List ℕ) → Inside (title_found z count common store p)
  unfolding title_found
  found_inside p = inside-by (cut_to z.depth p) _ refl

  -- the part lies in its store
  module _ (small : area z ≤ 4096) (there : count * area z ≤ length common) (here : z.stored * area z ≤ length store) where
    part_by : (k : Logical) (f : Flip) (b : Bool) → ltb k.0 count ≡ b → k.0 < count + z.stored
        → cond b k.0 (k.0 - count) * area z + area z ≤ length (cond b common store)
    part_by k f true e lt = omega (arith, item-inside (area z) count k.0 (ltb-true k.0 count e), there)
    part_by k f false e lt =
        let own : k.0 - count < z.stored = omega (arith, ltb-false k.0 count e) in
        omega (arith, item-inside (area z) z.stored (k.0 - count) own, here)

    pub has_part : (found : Found) → Inside found → HasPart z count common store found
    has_part (At k f) lt = record { small = small; inside = part_by k f (ltb k.0 count) refl lt }
    has_part Nothing lt = record { small = small; inside = omega arith }

  -- how long it is
  pub part-long : {found : Found} → HasPart z count common store found → length (part_of z count common store found) ≡ part_length z found
  unfolding part_of
  part-long {found} h =
      let lender = cond (is_common count found) common store in
      length-take-le (part_length z found) (drop (part_start z count found) lender)
      (omega (arith, h.inside, length-drop (part_start z count found) lender))

  -- it is cut out of the store that has it
  module _ (k : Logical) (f : Flip) {at : ℕ} (here : at ≡ place_there count k.0 * area z) (b : Bool) (e : ltb k.0 count ≡ b) where
    pub cut_inside : HasPart z count common store (At k f) → at + area z ≤ length (cond b common store)
    cut_inside h = subst (λ (c : Bool). at + area z ≤ length (cond c common store)) e (rw here h.inside)

    pub cut-is : take (at + area z - at) (drop at (cond b common store)) ≡ part_of z count common store (At k f)
    unfolding part_of
    cut-is =
        ap (λ (n : ℕ). take n (drop at (cond b common store))) (add-sub_cancel_left at (area z))
        ∙ ap (λ (i : ℕ). take (area z) (drop i (cond b common store))) here
        ∙ ap (λ (c : Bool). take (area z) (drop (place_there count k.0 * area z) (cond c common store))) (sym e)

  -- and is the tile at the place
  module _ (k : Logical) (f : Flip) where
    abbrev all : List (List ℕ)
    all = title_tiles z count common store

    tile-by : (b : Bool) → ltb k.0 count ≡ b → k.0 < count + z.stored
        → take (area z) (drop (cond b k.0 (k.0 - count) * area z) (cond b common store)) ≡ get_or all k.0 []
    tile-by true e lt =
        let here = ltb-true k.0 count e in
        sym
        (get_or-append (common_tiles z count common) (set_tiles z store) [] k.0 (omega (arith, here, tiles-long (area z) common count))
        ∙ tiles-at (area z) common count k.0 here)
    tile-by false e lt =
        let own = k.0 - count in
        let at : k.0 ≡ length (common_tiles z count common) + own = omega (arith, ltb-false k.0 count e, tiles-long (area z) common count) in
        sym
        (ap (λ (i : ℕ). get_or all i []) at
        ∙ get_or-append-add (common_tiles z count common) (set_tiles z store) own []
        ∙ tiles-at (area z) store z.stored own (omega (arith, ltb-false k.0 count e)))

    pub part-tile : k.0 < count + z.stored → part_of z count common store (At k f) ≡ get_or all k.0 []
    unfolding part_of
    part-tile lt = tile-by (ltb k.0 count) refl lt

  -- "the tile's pixels are handed back": an allowed flip takes the part to the pixels that were asked for, cut
  pub part-taken : (p : List ℕ) {k : Logical} {f : Flip} → title_found z count common store p ≡ At k f
      → Takes z.flips z.width z.height (part_of z count common store (At k f)) (cut_to z.depth p) f
  unfolding title_found
  part-taken p {k} {f} e =
      let told = look-told z.flips z.width z.height (cut_to z.depth p) (title_tiles z count common store) e in
      rw (part-tile k f (omega (arith, told.0, tiles-count))) told.1

  -- "an empty part if nothing is found"
  pub part_none : part_of z count common store Nothing ≡ []
  unfolding part_of
  part_none = refl

-- ---- the functions

module _ (z : Set) (count : ℕ) (common store : List ℕ) where
  -- a place among the own tiles is below their number
  pub own_below : {r : Found} (t : List ℕ) (k : Logical) {f : Flip} → r ≡ look_up z.flips z.width z.height (set_tiles z store) t → r ≡ At k f → k.0 < z.stored
  own_below t k e at = omega (arith, (look-told z.flips z.width z.height t (set_tiles z store) (sym e ∙ at)).0, tiles-long (area z) store z.stored)

  -- where the common tiles have it, and where they do not
  pub both_common : {r : Found} (t : List ℕ) (k : Logical) (f : Flip) → r ≡ look_up z.flips z.width z.height (common_tiles z count common) t → r ≡ At k f
      → At k f ≡ look_up z.flips z.width z.height (title_tiles z count common store) t
  both_common t k f e at = sym (common-first z count common store t (sym e ∙ at))

  pub both_own : {r own : Found} (t : List ℕ) → r ≡ look_up z.flips z.width z.height (common_tiles z count common) t → r ≡ Nothing
      → own ≡ after_common count (look_up z.flips z.width z.height (set_tiles z store) t)
      → own ≡ look_up z.flips z.width z.height (title_tiles z count common store) t
  both_own t e none own = own ∙ sym (then-own z count common store t (sym e ∙ none))

  -- pixels that are cut into a buffer
  pub cut_found : {r : Found} (p buffer : List ℕ) {tile : List ℕ} → tile ≡ sets buffer 0 (cut_to z.depth p) → length p ≤ length buffer
      → r ≡ look_up z.flips z.width z.height (title_tiles z count common store) (take (length p) tile) → r ≡ title_found z count common store p
  unfolding title_found
  cut_found p buffer e long found =
      found
      ∙ ap (look_up z.flips z.width z.height (title_tiles z count common store)) (ap (take (length p)) e ∙ cut-front z.depth p buffer long)

  -- the part in the store that has it, and none
  module _ {found : Found} (k : Logical) (f : Flip) (is : found ≡ At k f) {at : ℕ} (here : at ≡ place_there count k.0 * area z) where
    pub part_common : k.0 < count → take (at + area z - at) (drop at common) ≡ part_of z count common store found
    part_common lt = cut-is z count common store k f here true (lt-ltb k.0 count lt) ∙ sym (ap (part_of z count common store) is)

    pub part_own : count ≤ k.0 → take (at + area z - at) (drop at store) ≡ part_of z count common store found
    part_own le = cut-is z count common store k f here false (le-ltb k.0 count le) ∙ sym (ap (part_of z count common store) is)

  pub part_empty : {found : Found} → found ≡ Nothing → [] ≡ part_of z count common store found
  part_empty is = sym (ap (part_of z count common store) is ∙ part_none z count common store)

pub ruleset both_rules = (both_common, both_own)

pub ruleset part_rules = (part_common, part_own, part_empty)

-- ---- a look-up

module _ (z : Set) (count : ℕ) (common store p : List ℕ) where
  abbrev due : ℕ
  due = title_says z count (length common) (length store) (length p)

  abbrev there : Found
  there = title_found z count common store p

  pub held_refused : (r : Result (Option Hit) Refusal) (e : Refusal) → refusal_number e ≡ due → IsErrAnd r (λ x. x ≡ e)
      → title_held_by r ≡ title_held z count common store p
  held_refused r e given is =
      ap title_held_by (passed_on r e is) ∙ refused-held (refusal_number e) z count there given (refusal-not-done e)

  pub part_there : {found : Found} → found ≡ there → Titled z count common store p → HasPart z count common store found
  part_there e known =
      subst (HasPart z count common store) (sym e)
      (has_part z count common store known.looks.small known.inside known.looks.inside there (found_inside z count common store p))

  pub held_told : (h : Option Hit) {found : Found} → hit_held h ≡ held_of z count found → found ≡ there → due ≡ 0 → hit_held h ≡ title_held z count common store p
  held_told h is e none = is ∙ ap (held_of z count) e ∙ done_held z count there none

pub ruleset held_rules = (held_refused, part_there, held_told, titled-of)
