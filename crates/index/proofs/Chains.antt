-- A search of a true index, from the last tile of a bucket to the first, finds what a look-up finds: said of any three lists, of any length, and so
-- of an index's own.
-- Assumes nothing.
use mathlib.Core.Path.{◌≡◌, refl, sym, ap, ◌∙◌, subst}
use mathlib.Core.Bool.{Bool, true, false, cond, ◌||◌}
use mathlib.Core.List.{List, [], ◌∷◌}
use Prim.Native.Nat.{ℕ, zero, suc, ◌+◌, ◌-◌, ◌%◌, ◌<◌, ◌≤◌}
use native.Mathlib.Nat.{add-zero, add-suc, le_refl}
use native.Mathlib.Omega.{arith}
use lib.Dec.{eqb}
use lib.ListN.{length, get_or, take}
use lib.Seq.{take-suc, take-length, length-take-le, get_or-take}
use borrow.Author.Tests.{eqb-true}
use Rattle.words.proofs.Loops.{or-true}
use Rattle.flip.specs.Matching.{match_flip, is_under, matches}
use Rattle.std.specs.Prelude.{Option, Some, None}
use Rattle.flip.proofs.Equivalence.{matches-trans, not-both}
use Rattle.tileset.specs.Finding.{logical, found_or, look_up, is_found}
use Rattle.tileset.specs.Matched.{matches_some}
use Rattle.tileset.specs.declared.Found.{Found}
use Rattle.tileset.specs.declared.Found.TheVariants.{At, Nothing}
use Rattle.tileset.proofs.Matched.{look-some}
use Rattle.tileset.proofs.Search.{or_else, look-append}
use Rattle.index.specs.InnerLinks.{link_in}
use Rattle.index.specs.Inner.{bucket_of, Skip, Gap, IndexedIn, SearchesIn, Searches}
use Rattle.index.specs.declared.Index.{Index}
use Rattle.flip.specs.declared.Flip.{Flip}
use Rattle.index.proofs.Keys.{matches-key}

module _ (on : Bool) (tiles : List (List ℕ)) (keys heads next : List ℕ) (x : IndexedIn on tiles keys heads next) (b k : ℕ) (p : k < length tiles) where
  link-case : (q : Bool) → eqb (get_or keys k 0 % 4096) b ≡ q → (cond q (get_or next k 0) k ≤ k) × Gap on tiles b (cond q (get_or next k 0) k) k
  link-case true e =
      let same : bucket_of on (get_or tiles k []) ≡ b = ap (λ (n : ℕ). n % 4096) (sym (x.keyed k p)) ∙ eqb-true (get_or keys k 0 % 4096) b e in
      (x.next_low k p, subst (λ (n : ℕ). Gap on tiles n (get_or next k 0) k) same (x.next_gap k p))
  link-case false e = (omega arith, λ j q r. absurd (omega arith))

  pub link-gap : (link_in keys next b k ≤ k) × Gap on tiles b (link_in keys next b k) k
  unfolding link_in
  link-gap = link-case (eqb (get_or keys k 0 % 4096) b) refl

-- ---- one of some tiles matches

pub some_at : (on : Bool) (w h : ℕ) (tiles : List (List ℕ)) (t : List ℕ) (i : ℕ) → i < length tiles → matches on w h (get_or tiles i []) t ≡ true
    → matches_some on w h tiles t ≡ true
some_at on w h [] t i lt e = absurd (omega arith)
some_at on w h (a ∷ rest) t zero lt e = rw e
some_at on w h (a ∷ rest) t (suc i) lt e = rw (some_at on w h rest t i (omega arith) e) (or-true (matches on w h a t))

where-case : (on : Bool) (w h : ℕ) (a : List ℕ) (rest : List (List ℕ)) (t : List ℕ) (b : Bool) → matches on w h a t ≡ b
    → ((matches_some on w h rest t ≡ true) → (i : ℕ) × (i < length rest) × (matches on w h (get_or rest i []) t ≡ true)) → (b || matches_some on w h rest t) ≡ true
    → (i : ℕ) × (i < length (a ∷ rest)) × (matches on w h (get_or (a ∷ rest) i []) t ≡ true)
where-case on w h a rest t true m next e = (0, omega arith, m)
where-case on w h a rest t false m next e = let r = next e in (suc r.0, omega (arith, r.1), r.2)

pub some-where : (on : Bool) (w h : ℕ) (tiles : List (List ℕ)) (t : List ℕ) → matches_some on w h tiles t ≡ true
    → (i : ℕ) × (i < length tiles) × (matches on w h (get_or tiles i []) t ≡ true)
some-where on w h [] t e = not-both e
some-where on w h (a ∷ rest) t e = where-case on w h a rest t (matches on w h a t) refl (some-where on w h rest t) e

-- ---- a look-up from the last tile to the first

module _ (on : Bool) (t : List ℕ) where
  or-over : (q : Found) (m : Option Flip) (k : ℕ) (r : Found) → or_else (or_else q (found_or m k Nothing)) r ≡ or_else q (found_or m k r)
  or-over (At j f) m k r = refl
  or-over Nothing (Some f) k r = refl
  or-over Nothing None k r = refl

  or_nothing : (q : Found) → or_else q Nothing ≡ q
  or_nothing (At k f) = refl
  or_nothing Nothing = refl

  module _ (tiles : List (List ℕ)) where
    -- what a look-up among the first l tiles answers, and else r
    unfoldable pub below : ℕ → Found → Found
    below l r = or_else (look_up on 8 8 (take l tiles) t) r

    pub below_all : look_up on 8 8 tiles t ≡ below (length tiles) Nothing
    unfolding below
    below_all = sym (or_nothing (look_up on 8 8 (take (length tiles) tiles) t) ∙ ap (λ (ts : List (List ℕ)). look_up on 8 8 ts t) (take-length tiles))

    pub below_none : (r : Found) → below 0 r ≡ r
    unfolding below look_up
    below_none r = refl

    over : (k : ℕ) (r : Found) → k < length tiles → below (suc k) r ≡ below k (found_or (match_flip on 8 8 (get_or tiles k []) t) k r)
    unfolding below
    over k r p =
        ap (λ (ts : List (List ℕ)). or_else (look_up on 8 8 ts t) r) (take-suc tiles k [] p)
        ∙ ap (λ (q : Found). or_else q r)
        (look-append on 8 8 t (take k tiles) (get_or tiles k [] ∷ [])
        ∙ ap (λ (n : ℕ). or_else (look_up on 8 8 (take k tiles) t) (found_or (match_flip on 8 8 (get_or tiles k []) t) n Nothing)) (length-take-le k tiles (omega arith)))
        ∙ or-over (look_up on 8 8 (take k tiles) t) (match_flip on 8 8 (get_or tiles k []) t) k r

    found-or : (q r s : Found) → is_found q ≡ true → or_else q r ≡ or_else q s
    found-or (At j f) r s e = refl
    found-or Nothing r s e = not-both e

    -- a tile that an earlier one matches is not the first
    shaded : (k i : ℕ) (r s : Found) → k ≤ length tiles → i < k → matches on 8 8 (get_or tiles i []) t ≡ true → below k r ≡ below k s
    unfolding below
    shaded k i r s l p m =
        found-or (look_up on 8 8 (take k tiles) t) r s
        (look-some on 8 8 (take k tiles) t ∙ some_at on 8 8 (take k tiles) t i (omega (arith, length-take-le k tiles l)) (rw (get_or-take k tiles i [] p) m))

    skip-case : (k : ℕ) (r : Found) (m : Option Flip) → k < length tiles → Skip on tiles (bucket_of on t) k → match_flip on 8 8 (get_or tiles k []) t ≡ m
        → below k (found_or m k r) ≡ below k r
    skip-case k r (Some f) p s e =
        let here : matches on 8 8 (get_or tiles k []) t ≡ true = ap is_under e in
        let w = s (ap (λ (n : ℕ). n % 4096) (matches-key on (get_or tiles k []) t here)) in
        shaded k w.0 (At (logical k) f) r (omega arith) w.1 (matches-trans on 8 8 (omega arith) (get_or tiles w.0 []) (get_or tiles k []) t w.2 here)
    skip-case k r None p s e = refl

    skip : (k : ℕ) (r : Found) → k < length tiles → Skip on tiles (bucket_of on t) k → below (suc k) r ≡ below k r
    skip k r p s = over k r p ∙ skip-case k r (match_flip on 8 8 (get_or tiles k []) t) p s refl

    skips : (low d : ℕ) (r : Found) → low + d ≤ length tiles → Gap on tiles (bucket_of on t) low (low + d) → below (low + d) r ≡ below low r
    skips low zero r p g = ap (λ (n : ℕ). below n r) (add-zero low)
    skips low (suc d) r p g =
        ap (λ (n : ℕ). below n r) (add-suc low d)
        ∙ skip (low + d) r (omega arith) (g (low + d) (omega arith) (omega arith))
        ∙ skips low d r (omega arith) (λ j a b. g j a (omega arith))

    -- tiles that may be passed by are passed by
    gap : (low high : ℕ) (r : Found) → low ≤ high → high ≤ length tiles → Gap on tiles (bucket_of on t) low high → below high r ≡ below low r
    gap low high r p q g =
        let e : low + (high - low) ≡ high = omega arith in
        ap (λ (n : ℕ). below n r) (sym e) ∙ skips low (high - low) r (omega arith) (λ j a b. g j a (omega arith))

    -- a tile is looked at, and the link followed
    turn : (k l : ℕ) (r : Found) → k < length tiles → l ≤ k → Gap on tiles (bucket_of on t) l k
        → below (suc k) r ≡ below l (found_or (match_flip on 8 8 (get_or tiles k []) t) k r)
    turn k l r p q g = over k r p ∙ gap l k (found_or (match_flip on 8 8 (get_or tiles k []) t) k r) q (omega arith) g

-- ---- a search

-- the tiles from l on are searched, and r is what they hold
pub record Searching (on : Bool) (tiles : List (List ℕ)) (t : List ℕ) (l : ℕ) (r : Found) : Type 0 where
  pub low : l ≤ length tiles
  pub is : look_up on 8 8 tiles t ≡ below on t tiles l r

module _ (on : Bool) (tiles : List (List ℕ)) (keys heads next t : List ℕ) (q : ℕ) (z : SearchesIn on tiles keys heads next t q) where
  bucket-is : (b : ℕ) → b ≡ q % 4096 → b ≡ bucket_of on t
  bucket-is b e = e ∙ ap (λ (n : ℕ). n % 4096) z.its

  pub search-start : (b : ℕ) {l : ℕ} → b ≡ q % 4096 → b < 4096 → l ≡ get_or heads b 0 → Searching on tiles t l Nothing
  search-start b {l} e p g =
      let low : l ≤ length tiles = subst (λ (n : ℕ). n ≤ length tiles) (sym g) (z.index.head_low b p) in
      let free : Gap on tiles (bucket_of on t) l (length tiles) =
      subst (λ (n : ℕ). Gap on tiles (bucket_of on t) n (length tiles)) (sym g)
      (subst (λ (n : ℕ). Gap on tiles n (get_or heads b 0) (length tiles)) (bucket-is b e) (z.index.head_gap b p)) in
      record {
        low = low;
        is = below_all on t tiles ∙ gap on t tiles l (length tiles) Nothing low (le_refl (length tiles)) free;
      }

  module _ (b : ℕ) {l k next-l : ℕ} {r next-r : Found} {m : Option Flip} (e : b ≡ q % 4096) (o : 0 < l) (up : l ≡ suc k) (h : Searching on tiles t l r)
      (em : m ≡ match_flip on 8 8 (get_or tiles k []) t) (er : next-r ≡ found_or m k r) (el : next-l ≡ link_in keys next b k) where
    kt : k < length tiles
    kt = omega (arith, h.low)

    pub search-down : next-l ≤ k
    search-down = subst (λ (n : ℕ). n ≤ k) (sym el) (link-gap on tiles keys heads next z.index b k kt).0

    pub search-turn : Searching on tiles t next-l next-r
    search-turn =
        let free : Gap on tiles (bucket_of on t) next-l k =
        subst (λ (n : ℕ). Gap on tiles (bucket_of on t) n k) (sym el)
        (subst (λ (n : ℕ). Gap on tiles n (link_in keys next b k) k) (bucket-is b e) (link-gap on tiles keys heads next z.index b k kt).1) in
        record {
          low = omega (arith, search-down, kt);
          is =
              h.is ∙ ap (λ (n : ℕ). below on t tiles n r) up
              ∙ turn on t tiles k next-l r kt search-down free
              ∙ ap (λ (o : Option Flip). below on t tiles next-l (found_or o k r)) (sym em)
              ∙ ap (below on t tiles next-l) (sym er);
        }

  pub search-end : {l : ℕ} {r : Found} → l ≡ 0 → Searching on tiles t l r → r ≡ look_up on 8 8 tiles t
  search-end {r = r} e h = sym (h.is ∙ ap (λ (n : ℕ). below on t tiles n r) e ∙ below_none on t tiles r)

-- the same of an index
pub index-search-end : (on : Bool) (tiles : List (List ℕ)) (x : Index) (t : List ℕ) (q : ℕ) → Searches on tiles x t q
    → {l : ℕ} {r : Found} → l ≡ 0 → Searching on tiles t l r → r ≡ look_up on 8 8 tiles t
index-search-end on tiles x t q z = search-end on tiles x.keys x.heads x.next t q z
