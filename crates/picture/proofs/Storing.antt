-- One tile of a picture more: what is kept, and where the tile is found.
-- Assumes nothing.
use mathlib.Core.Path.{◌≡◌, refl, sym, ap, ◌∙◌, subst}
use mathlib.Core.Bool.{Bool, true, false, cond, ◌&&◌}
use mathlib.Core.List.{List, [], ◌∷◌, ◌++◌}
use mathlib.Core.Logic.{⊎_elim}
use Prim.Native.Nat.{ℕ, suc, ◌+◌, ◌<◌, ◌≤◌}
use native.Mathlib.Nat.{eq-or-lt_of_le, ne_of_lt, mul-le-mul}
use lib.Dec.{ltb}
use native.Mathlib.Numerals.{add-one}
use native.Mathlib.Omega.{arith}
use lib.ListN.{length, get_or, set, length-append, length-set}
use lib.Seq.{get_or-set_same, get_or-set_other}
use borrow.Author.Tests.{lt-ltb, le-ltb, ltb-true, ltb-false}
use Rattle.std.specs.Prelude.{Result, Ok, IfOk, OnOk, IsErrAnd, ⊤}
use Rattle.words.specs.Answers.{◌when◌}
use Rattle.words.specs.InnerResults.{refusal_number}
use Rattle.words.specs.declared.refusal.Refusal.{Refusal}
use Rattle.words.proofs.Answers.{not-given}
use Rattle.words.proofs.Refusing.{refusal-not-done, passed_on, answered-again}
use Rattle.flip.specs.Flips.{flip}
use Rattle.flip.specs.declared.Flip.{Flip}
use Rattle.tileset.specs.Finding.{logical, look_up, is_found}
use Rattle.tileset.specs.Keeping.{keep, keep_all}
use Rattle.tileset.specs.declared.Logical.{Logical}
use Rattle.tileset.specs.declared.Found.{Found}
use Rattle.tileset.specs.declared.Found.TheVariants.{At, Nothing}
use Rattle.tileset.proofs.Keeping.{keep-new, after-found, after-new, found_below}
use Rattle.index.specs.InnerKeys.{key}
use Rattle.index.specs.Inner.{Indexed}
use Rattle.picture.specs.Cells.{cut_tiles}
use Rattle.picture.specs.Converting.{places, picture_tiles}
use Rattle.picture.specs.Continuing.{unpacked_tiles, stored_after, found_after}
use Rattle.picture.specs.Inner.{tile_at, code_of, stored_tiles, tiles_of, Keeps, Stores, StoredAt, Entered, KeptWith, TakenAs, kept_after, KeptAs, Gathers, GatheredWith, GatheredAs}
use Rattle.picture.specs.declared.Settings.{Settings}
use Rattle.picture.specs.declared.stored.Source.{Source}
use Rattle.picture.specs.declared.stored.Store.{Store}
use Rattle.picture.proofs.Cells.{some-8}
use Rattle.picture.proofs.Converted.{tile-is}
use Rattle.picture.proofs.Kept.{after_none, after_next, kept-grows, found-final, length-cut_tile}
use Rattle.picture.proofs.Tiles.{stored-long, stored_next, stored_more, all-written, finds-of, more-indexed}

-- ---- the room

module _ (room : ℕ) (e : Refusal) (n : ℕ) (given : refusal_number e ≡ 12 when ltb room n) where
  full-case : (b : Bool) → ltb room n ≡ b → refusal_number e ≡ 12 when b → room < n
  full-case true q g = ltb-true room n q
  full-case false q g = absurd (refusal-not-done e g)

  -- a refusal for want of room tells that there is too little
  pub is-full : room < n
  is-full = full-case (ltb room n) refl given

  -- and then there is too little for more
  pub still-full : (m : ℕ) → n ≤ m → refusal_number e ≡ 12 when ltb room m
  still-full m le = given ∙ ap (λ (b : Bool). 12 when b) (lt-ltb room n is-full ∙ sym (lt-ltb room m (omega (arith, is-full))))

pub has-room : (room n : ℕ) → 0 ≡ 12 when ltb room n → n ≤ room
has-room room n e = ltb-false room n (not-given 11 (ltb room n) (sym e))

-- ---- one tile

module _ {s : Source} {t : Store} {room i : ℕ} (k : Keeps s t room i) where
  abbrev tile : List ℕ
  tile = tile_at s.settings s.pixels.now i

  abbrev tiles : List (List ℕ)
  tiles = tiles_of s t

  abbrev longer : List (List ℕ)
  longer = tiles ++ tile ∷ []

  many : length tiles ≡ t.count
  many = stored-long s.settings s.pixels.now s.tiles.now t.held t.from t.count

  one_more : length longer ≡ t.count + 1
  one_more = omega (arith, many, length-append tiles (tile ∷ []))

  pub store-asks : Stores t room i
  store-asks =
      record {
        within = k.within;
        most = k.most;
        long = k.stored.long;
        inside = omega (arith, k.inside, mul-le-mul {n₁ = s.settings.columns} {m₁ = s.settings.rows} {n₂ = 64} {m₂ = 64} k.stored.picture.narrow k.stored.picture.low);
      }

  abbrev As : List (List ℕ) → ℕ → Store → Result ℕ Refusal → Type 0
  As ts code after r = TakenAs s t.held ts room code after r

  -- there is no room
  pub stored-none : (e : Refusal) (r : Result ℕ Refusal) (code : ℕ) (after : Store) → IsErrAnd r (λ x. x ≡ e) → refusal_number e ≡ 12 when ltb room (t.count + 1) → As longer code after r
  stored-none e r code after is given =
      record {
        says = answered-again e r is ∙ given ∙ ap (λ (n : ℕ). 12 when ltb room n) (sym one_more);
        values = subst (λ (r : Result ℕ Refusal). IfOk r (λ place. KeptWith s t.held longer room code after place)) (sym (passed_on r e is)) tt;
      }

  -- it goes at the end
  stored_last : {q : ℕ} {found : Found} {after : Store} (code : ℕ) → 0 ≡ 12 when ltb room (t.count + 1) → StoredAt t i q found after → q ≡ key s.settings.flip tile
      → found ≡ look_up s.settings.flip 8 8 tiles tile → As longer code after (Ok code)
  stored_last {after = after} code given p its looked =
      let fits : t.count + 1 ≤ room = has-room room (t.count + 1) given in
      let few : t.count < 4096 = omega (arith, k.most) in
      record {
        says = given ∙ ap (λ (n : ℕ). 12 when ltb room n) (sym one_more);
        values = record {
          within = omega (arith, p.count);
          entered = record {
            still = p.held;
            stored = rw (p.held, p.from, p.count) (stored_more k.stored k.inside few);
            above = omega (arith, k.above, p.held, p.count);
            is = rw (p.held, p.from, p.count) (stored_next s.settings s.pixels.now s.tiles.now t.held t.from t.count i k.above (omega (arith, k.stored.long)));
            index = more-indexed (finds-of {s = s} {t = t} k.stored k.index its) few looked p.entered refl;
          };
          coded = refl;
        };
      }

  -- over what is kept
  as-kept : {after : Store} {r : Result ℕ Refusal} {code : ℕ} → kept_after s t i ≡ longer → code ≡ code_of (look_up s.settings.flip 8 8 (kept_after s t i) tile)
      → As longer code after r → KeptAs s t room i after r
  as-kept {after} {r} {code} same coded taken =
      subst (λ (c : ℕ). As (kept_after s t i) c after r) coded (subst (λ (ts : List (List ℕ)). As ts code after r) (sym same) taken)

  -- nothing was found
  module _ {code : ℕ} (e : look_up s.settings.flip 8 8 tiles tile ≡ Nothing) (c : code ≡ code_of (At (logical t.count) (flip false false))) where
    new-coded : code ≡ code_of (look_up s.settings.flip 8 8 (kept_after s t i) tile)
    new-coded =
        c ∙ ap (λ (n : ℕ). code_of (At (logical n) (flip false false))) (sym many)
        ∙ ap code_of (sym (after-new s.settings.discard s.settings.flip 8 8 (omega arith) tiles tile (length-cut_tile s.settings.depth 8 8 s.settings.columns s.pixels.now i) e))

    pub new-refused : (x : Refusal) (r : Result ℕ Refusal) (after : Store) → IsErrAnd r (λ y. y ≡ x) → refusal_number x ≡ 12 when ltb room (t.count + 1) → KeptAs s t room i after r
    new-refused x r after is given = as-kept (keep-new s.settings.discard s.settings.flip 8 8 tiles tile e) new-coded (stored-none x r code after is given)

    pub new-stored : {q : ℕ} {found : Found} {after : Store} → 0 ≡ 12 when ltb room (t.count + 1) → StoredAt t i q found after → q ≡ key s.settings.flip tile
        → found ≡ look_up s.settings.flip 8 8 tiles tile → KeptAs s t room i after (Ok code)
    new-stored given p its looked = as-kept (keep-new s.settings.discard s.settings.flip 8 8 tiles tile e) new-coded (stored_last code given p its looked)

  -- a stored tile matches
  module _ {place : Logical} {f : Flip} (e : look_up s.settings.flip 8 8 tiles tile ≡ At place f) where
    keep-is : (b : Bool) → s.settings.discard ≡ b → kept_after s t i ≡ cond b tiles longer
    unfolding keep
    keep-is true d =
        ap (λ (b : Bool). cond (b && is_found (look_up s.settings.flip 8 8 tiles tile)) tiles longer) d ∙ ap (λ (x : Found). cond (is_found x) tiles longer) e
    keep-is false d = ap (λ (b : Bool). cond (b && is_found (look_up s.settings.flip 8 8 tiles tile)) tiles longer) d

    coded-there : {code : ℕ} → code ≡ code_of (At place f) → code ≡ code_of (look_up s.settings.flip 8 8 (kept_after s t i) tile)
    coded-there c = c ∙ ap code_of (sym (after-found s.settings.discard s.settings.flip 8 8 tiles tile e))

    pub place-few : place.0 ≤ 4096
    place-few = omega (arith, found_below s.settings.discard s.settings.flip 8 8 tiles tile e, many, k.within, k.most)

    pub keep-found : {code : ℕ} → s.settings.discard ≡ true → code ≡ code_of (At place f) → KeptAs s t room i t (Ok code)
    keep-found d c =
        let same : kept_after s t i ≡ tiles = keep-is true d in
        record {
          says = rw (same, le-ltb room (length tiles) (omega (arith, many, k.within)));
          values = record {
            within = k.within;
            entered = record {
              still = refl;
              stored = k.stored;
              above = k.above;
              is = sym same;
              index = subst (λ (ts : List (List ℕ)). Indexed s.settings.flip ts t.index) (sym same) k.index;
            };
            coded = coded-there c;
          };
        }

    pub again-refused : {code : ℕ} (x : Refusal) (r : Result ℕ Refusal) (after : Store) → s.settings.discard ≡ false → code ≡ code_of (At place f) → IsErrAnd r (λ y. y ≡ x)
        → refusal_number x ≡ 12 when ltb room (t.count + 1) → KeptAs s t room i after r
    again-refused {code} x r after d c is given = as-kept (keep-is false d) (coded-there c) (stored-none x r code after is given)

    pub again-stored : {code q : ℕ} {found : Found} {after : Store} → s.settings.discard ≡ false → code ≡ code_of (At place f) → 0 ≡ 12 when ltb room (t.count + 1)
        → StoredAt t i q found after → q ≡ key s.settings.flip tile → found ≡ look_up s.settings.flip 8 8 tiles tile → KeptAs s t room i after (Ok code)
    again-stored {code} d c given p its looked = as-kept (keep-is false d) (coded-there c) (stored_last code given p its looked)

-- ---- the tiles of a picture, after those that are written

module _ (s : Source) (held : ℕ) where
  abbrev z : Settings
  z = s.settings

  abbrev pixels : List ℕ
  pixels = s.pixels.now

  abbrev had : List (List ℕ)
  had = unpacked_tiles z s.tiles.now held

  abbrev kept : ℕ → List (List ℕ)
  kept i = keep_all z.discard z.flip 8 8 had (cut_tiles z.depth 8 8 z.columns pixels i)

  all-kept : stored_after z pixels had ≡ kept (places z)
  unfolding stored_after picture_tiles
  all-kept = refl

  -- a tile is found where it was found when it was taken
  found-taken : (i : ℕ) → i < places z → found_after z pixels had i ≡ look_up z.flip 8 8 (kept (suc i)) (tile_at z pixels i)
  unfolding found_after
  found-taken i lt =
      ap (look_up z.flip 8 8 (stored_after z pixels had)) (tile-is 8 8 some-8 z pixels i lt)
      ∙ ap (λ (ts : List (List ℕ)). look_up z.flip 8 8 ts (tile_at z pixels i)) all-kept
      ∙ found-final z.discard z.flip z.depth 8 8 z.columns pixels had some-8 (places z) i lt

  pub record Gathering (room : ℕ) (t : Store) (codes : List ℕ) (i : ℕ) : Type 0 where
    pub within : t.count ≤ room
    pub entered : Entered s held (kept i) t
    pub coded : (k : ℕ) → k < i → get_or codes k 0 ≡ code_of (found_after z pixels had k)
    pub long : length codes ≡ 4096

  module _ {room : ℕ} {t : Store} {codes : List ℕ} {i : ℕ} (g : Gathering room t codes i) where
    module _ (lt : i < places z) where
      pub gather-asks : room ≤ 4096 → Keeps s t room i
      gather-asks most =
          record {
            stored = g.entered.stored;
            above = g.entered.above;
            within = g.within;
            most = most;
            index = subst (λ (ts : List (List ℕ)). Indexed z.flip ts t.index) (sym g.entered.is) g.entered.index;
            inside = lt;
          }

      -- the tiles after this one
      next-kept : kept_after s t i ≡ kept (suc i)
      next-kept =
          ap (λ (ts : List (List ℕ)). keep z.discard z.flip 8 8 ts (tile_at z pixels i)) g.entered.is
          ∙ sym (after_next z.discard z.flip z.depth 8 8 z.columns pixels had i)

      pub gather-full : (e : Refusal) → refusal_number e ≡ 12 when ltb room (length (kept_after s t i)) → refusal_number e ≡ 12 when ltb room (length (stored_after z pixels had))
      gather-full e given =
          let grows = kept-grows z.discard z.flip z.depth 8 8 z.columns pixels had (places z) (suc i) lt in
          still-full room e (length (kept_after s t i)) given (length (stored_after z pixels had))
          (omega (arith, grows, ap (λ (x : List (List ℕ)). length x) next-kept, ap (λ (x : List (List ℕ)). length x) all-kept))

      code_at : (code k : ℕ) → i < length codes → code ≡ code_of (found_after z pixels had i) → k < i + 1 → get_or (set codes i code) k 0 ≡ code_of (found_after z pixels had k)
      code_at code k inside e below =
          ⊎_elim (λ (q : k ≡ i). rw q (get_or-set_same codes i code 0 inside ∙ e))
          (λ (l : k < i). get_or-set_other codes i k code 0 (ne_of_lt l) ∙ g.coded k l)
          (eq-or-lt_of_le (let q : k ≤ i = omega arith in q))

      pub gather-more : {code : ℕ} {after : Store} → KeptAs s t room i after (Ok code) → places z ≤ 4096 → Gathering room after (set codes i code) (i + 1)
      gather-more {code} {after} took few =
          let up : kept (suc i) ≡ kept (i + 1) = ap kept (sym (add-one i)) in
          let found = ap (λ (ts : List (List ℕ)). code_of (look_up z.flip 8 8 ts (tile_at z pixels i))) next-kept ∙ ap code_of (sym (found-taken i lt)) in
          let entered : Entered s held (kept_after s t i) after =
          subst (λ (n : ℕ). Entered s n (kept_after s t i) after) g.entered.still took.values.entered in
          record {
            within = took.values.within;
            entered = subst (λ (ts : List (List ℕ)). Entered s held ts after) (next-kept ∙ up) entered;
            coded = λ j below. code_at code j (omega (arith, g.long)) (took.values.coded ∙ found) below;
            long = length-set codes i code ∙ g.long;
          }

    -- all of them
    pub gather-all : i ≡ places z → (0 ≡ 12 when ltb room (length (stored_after z pixels had))) × (t.held ≡ held) × GatheredWith s room t codes
    gather-all e =
        let all : tiles_of s t ≡ stored_after z pixels had = g.entered.is ∙ ap kept e ∙ sym all-kept in
        let long = ap (λ (x : List (List ℕ)). length x) (sym all) ∙ stored-long z pixels s.tiles.now t.held t.from t.count in
        let here : had ≡ unpacked_tiles z s.tiles.now t.held = ap (unpacked_tiles z s.tiles.now) (sym g.entered.still) in (
          rw (le-ltb room (length (stored_after z pixels had)) (omega (arith, long, g.within))),
          g.entered.still,
          record {
            within = g.within;
            above = g.entered.above;
            stored = g.entered.stored;
            is = all ∙ ap (stored_after z pixels) here;
            coded = λ k lt. g.coded k (omega arith) ∙ ap (λ (ts : List (List ℕ)). code_of (found_after z pixels ts k)) here;
          },
        )

-- before any is gathered
pub gather_none : {s : Source} {t : Store} {room : ℕ} {codes : List ℕ} → Gathers s t room codes → Gathering s t.held room t codes 0
gather_none {s} {t} g =
    let z = s.settings in
    let none : tiles_of s t ≡ keep_all z.discard z.flip 8 8 (unpacked_tiles z s.tiles.now t.held) (cut_tiles z.depth 8 8 z.columns s.pixels.now 0) =
    ap (λ (n : ℕ). stored_tiles z s.pixels.now s.tiles.now t.held t.from n) g.written
    ∙ all-written z s.pixels.now s.tiles.now t.held t.from t.held (omega arith)
    ∙ sym (after_none z.discard z.flip z.depth 8 8 z.columns s.pixels.now (unpacked_tiles z s.tiles.now t.held)) in
    record {
      within = omega (arith, g.within, g.written);
      entered = record {
        still = refl;
        stored = g.stored;
        above = omega (arith, g.written);
        is = none;
        index = subst (λ (ts : List (List ℕ)). Indexed z.flip ts t.index) none g.index;
      };
      coded = λ k lt. absurd (omega arith);
      long = g.long;
    }

-- the answer
abbrev due : Source → Store → ℕ
due s t = length (stored_after s.settings s.pixels.now (unpacked_tiles s.settings s.tiles.now t.held))

module _ {s : Source} {t : Store} {room : ℕ} {after : Store} {codes : List ℕ} where
  pub gathered-none : (e : Refusal) (r : Result ⊤ Refusal) → IsErrAnd r (λ x. x ≡ e) → refusal_number e ≡ 12 when ltb room (due s t) → GatheredAs s t room after codes r
  gathered-none e r is given =
      record {
        says = answered-again e r is ∙ given;
        values = subst (λ (r : Result ⊤ Refusal). OnOk r ((after.held ≡ t.held) × GatheredWith s room after codes)) (sym (passed_on r e is)) tt;
      }

  pub gathered-all : (0 ≡ 12 when ltb room (due s t)) × (after.held ≡ t.held) × GatheredWith s room after codes → GatheredAs s t room after codes (Ok tt)
  gathered-all g = record { says = g.0; values = (g.1, g.2) }
