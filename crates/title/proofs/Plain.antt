-- A title's look-up is a set's over the title's tiles; and with a common count of 0 every answer is the plain set's.
-- Assumes nothing.
use mathlib.Core.Path.{◌≡◌, refl, sym, ap, ◌∙◌, subst}
use mathlib.Core.Bool.{not}
use mathlib.Core.List.{List, [], ◌∷◌, ◌++◌}
use Prim.Native.Nat.{ℕ, zero, suc, ◌+◌, ◌/◌, ◌≤◌}
use native.Mathlib.Nat.{suc-ne-zero, le_trans}
use native.Mathlib.Omega.{arith}
use lib.Dec.{ltb, eqb}
use lib.ListN.{length}
use borrow.Author.Tests.{le-ltb}
use Rattle.words.specs.Answers.{◌when◌, first_applying}
use Rattle.words.proofs.Order.{first-append, checks-given, checks-after}
use Rattle.tileset.specs.Sets.{area, room_in, held_checks, held_says, look_checks, look_says}
use Rattle.tileset.specs.Finding.{tiles_in, found_in, placed}
use Rattle.tileset.specs.Adding.{end_checks, add_says, added, added_by, store_with, store_by, Adds, AddsTile}
use Rattle.tileset.specs.declared.Set.{Set}
use Rattle.tileset.specs.declared.SetAnswer.{SetAnswer}
use Rattle.tileset.specs.declared.Place.{Place}
use Rattle.tileset.specs.declared.Found.{Found}
use Rattle.tileset.specs.declared.Found.TheVariants.{At, Nothing}
use Rattle.tileset.proofs.Says.{held-room, room_most}
use Rattle.title.specs.Titles.{title_found, title_checks, title_says, held_by, title_held, title_room, title_add_says, AddsToTitle}
use Rattle.title.specs.declared.Held.{Held}

-- ---- the answer without the part

abbrev pub place_in : Held → Place
place_in r = record { refusal = r.refusal; found = r.found; place = r.place; flip_h = r.flip_h; flip_v = r.flip_v }

place-by : (n : ℕ) (z : Set) (count : ℕ) (found : Found) → place_in (held_by n z count found) ≡ placed n found
place-by zero z count (At k f) = refl
place-by zero z count Nothing = refl
place-by (suc n) z count found = refl

pub held_place : (z : Set) (count : ℕ) (common store pixels : List ℕ)
    → place_in (title_held z count common store pixels)
    ≡ placed (title_says z count (length common) (length store) (length pixels)) (title_found z count common store pixels)
held_place z count common store pixels =
    place-by (title_says z count (length common) (length store) (length pixels)) z count (title_found z count common store pixels)

-- ---- a common count of 0

module _ (z : Set) (common : List ℕ) where
  pub plain-found : (store pixels : List ℕ) → title_found z 0 common store pixels ≡ found_in z store pixels
  unfolding title_found found_in tiles_in
  plain-found store pixels = refl

  module _ (shared len given : ℕ) where
    abbrev seven : List ℕ
    seven = 7 when not (eqb given (area z)) ∷ []

    abbrev others : List ℕ
    others = 6 when ltb (shared / area z) 0 ∷ 6 when ltb 65535 (0 + z.stored) ∷ seven

    says-by : (n : ℕ) → held_says z len ≡ n → first_applying (held_checks z len ++ others) ≡ first_applying (held_checks z len ++ seven)
    unfolding held_says
    says-by zero e =
        let few : z.stored ≤ 65535 = le_trans (held-room z len e) (room_most z.limit (len / area z)) in
        let none : first_applying others ≡ first_applying seven =
        rw (le-ltb (shared / area z) 0 (omega arith), le-ltb 65535 (0 + z.stored) (omega (arith, few))) in
        checks-after (held_checks z len) others e ∙ none ∙ sym (checks-after (held_checks z len) seven e)
    says-by (suc n) e =
        sym (checks-given (held_checks z len) others (suc n) (sym e) (suc-ne-zero n))
        ∙ checks-given (held_checks z len) seven (suc n) (sym e) (suc-ne-zero n)

    pub plain-says : title_says z 0 shared len given ≡ look_says z len given
    unfolding title_says look_says
    plain-says = says-by (held_says z len) refl

  plain-room : (len : ℕ) → title_room z 0 len ≡ room_in z len
  plain-room len = omega (arith, room_most z.limit (len / area z))

  module _ (store pixels : List ℕ) where
    pub plain-add-says : title_add_says z 0 common store pixels ≡ add_says z store pixels
    unfolding title_add_says title_says add_says look_says
    plain-add-says =
        let shared = length common in
        let len = length store in
        let given = length pixels in
        first-append (title_checks z 0 shared len given) (end_checks z (title_found z 0 common store pixels) (title_room z 0 len))
        ∙ ap (λ (n : ℕ). first_applying (n ∷ end_checks z (title_found z 0 common store pixels) (title_room z 0 len))) (plain-says shared len given)
        ∙ ap (λ (x : Found). first_applying (look_says z len given ∷ end_checks z x (title_room z 0 len))) (plain-found store pixels)
        ∙ ap (λ (n : ℕ). first_applying (look_says z len given ∷ end_checks z (found_in z store pixels) n)) (plain-room len)
        ∙ sym (first-append (look_checks z len given) (end_checks z (found_in z store pixels) (room_in z len)))

    -- an add to such a title keeps the promise of an add to the set
    pub plain-adds : {r : SetAnswer} {after : List ℕ} → AddsToTitle z 0 common store pixels r after → AddsTile z store pixels r after
    unfolding added store_with
    plain-adds {r} {after} k =
        subst (λ (x : Found). Adds (add_says z store pixels) z (added_by z x) store (store_by z x store pixels) r after) (plain-found store pixels)
        (subst
        (λ (n : ℕ). Adds n z (added_by z (title_found z 0 common store pixels)) store (store_by z (title_found z 0 common store pixels) store pixels) r after)
        plain-add-says k)

    -- and a look-up is answered as the set's
    pub plain-held : place_in (title_held z 0 common store pixels) ≡ placed (look_says z (length store) (length pixels)) (found_in z store pixels)
    plain-held =
        held_place z 0 common store pixels
        ∙ ap (λ (n : ℕ). placed n (title_found z 0 common store pixels)) (plain-says (length common) (length store) (length pixels))
        ∙ ap (placed (look_says z (length store) (length pixels))) (plain-found store pixels)
