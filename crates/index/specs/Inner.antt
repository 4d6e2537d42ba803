-- The index of 8x8 tiles, all of it scaffolding of proofs, which no export's contract reaches: what it holds, when it is true, and what it asks.
-- Assumes nothing.
use Rattle.std.specs.Prelude.{◌≡◌, Bool, true, cond, List, [], ℕ, ◌+◌, ◌%◌, ◌<◌, ◌≤◌, length, get_or, set}
use Rattle.flip.specs.Matching.{matches}
use Rattle.tileset.specs.Finding.{is_found}
use Rattle.tileset.specs.declared.Found.{Found}
use Rattle.index.specs.InnerKeys.{key}
use Rattle.index.specs.InnerLinks.{link_in}
use Rattle.index.specs.declared.Index.{Index}

-- ---- what an index holds

abbrev pub key_at : Index → ℕ → ℕ
key_at x k = get_or x.keys k 0

abbrev pub head_at : Index → ℕ → ℕ
head_at x b = get_or x.heads b 0

abbrev pub next_at : Index → ℕ → ℕ
next_at x k = get_or x.next k 0

-- No bucket has a chain.
abbrev pub IsEmpty : Index → Type 0
IsEmpty x = (b : ℕ) → b < 4096 → head_at x b ≡ 0

-- ---- when an index is true: said of any three lists of keys, heads and links, and so of an index's own

-- The bucket of a tile.
abbrev pub bucket_of : Bool → List ℕ → ℕ
bucket_of on t = key on t % 4096

module _ (on : Bool) (tiles : List (List ℕ)) where
  -- A search in bucket b may pass tile j by: it is in another bucket, or an earlier tile matches it.
  abbrev pub Skip : ℕ → ℕ → Type 0
  Skip b j = bucket_of on (get_or tiles j []) ≡ b → (i : ℕ) × (i < j) × (matches on 8 8 (get_or tiles i []) (get_or tiles j []) ≡ true)

  abbrev pub Gap : ℕ → ℕ → ℕ → Type 0
  Gap b low high = (j : ℕ) → low ≤ j → j < high → Skip b j

  -- Each tile has its key; a bucket's head, and the link after a tile, are places + 1, or 0 at a chain's end; what lies between may be passed by.
  pub record IndexedIn (keys heads next : List ℕ) : Type 0 where
    pub keyed : (k : ℕ) → k < length tiles → get_or keys k 0 ≡ key on (get_or tiles k [])
    pub head_low : (b : ℕ) → b < 4096 → get_or heads b 0 ≤ length tiles
    pub head_gap : (b : ℕ) → b < 4096 → Gap b (get_or heads b 0) (length tiles)
    pub next_low : (k : ℕ) → k < length tiles → get_or next k 0 ≤ k
    pub next_gap : (k : ℕ) → k < length tiles → Gap (bucket_of on (get_or tiles k [])) (get_or next k 0) k

  abbrev pub Indexed : Index → Type 0
  Indexed x = IndexedIn x.keys x.heads x.next

-- The link that follows tile k in bucket b.
abbrev pub link_of : Index → ℕ → ℕ → ℕ
link_of x b k = link_in x.keys x.next b k

-- The head of a bucket after tile n, of which a look-up found what is given.
abbrev pub head_of : Found → ℕ → ℕ → ℕ
head_of found head n = cond (is_found found) head (n + 1)

-- ---- what a search asks, and what entering leaves

-- A search among some tiles, where q is the key of the tile that is looked up.
pub record SearchesIn (on : Bool) (tiles : List (List ℕ)) (keys heads next tile : List ℕ) (q : ℕ) : Type 0 where
  pub few : length tiles ≤ 4096
  pub index : IndexedIn on tiles keys heads next
  pub its : q ≡ key on tile

abbrev pub Searches : Bool → List (List ℕ) → Index → List ℕ → ℕ → Type 0
Searches on tiles x tile q = SearchesIn on tiles x.keys x.heads x.next tile q

-- The index after tile n, whose key is q.
pub record Enters (x : Index) (n q : ℕ) (found : Found) (after : Index) : Type 0 where
  pub keyed : after.keys ≡ set x.keys n q
  pub linked : after.next ≡ set x.next n (head_at x (q % 4096))
  pub headed : after.heads ≡ set x.heads (q % 4096) (head_of found (head_at x (q % 4096)) n)
