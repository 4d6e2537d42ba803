-- What the functions behind a conversion and a redrawing ask, and what they promise.
-- Assumes nothing.
use Rattle.std.specs.Prelude.{◌≡◌, false, cond, ◌&&◌, List, [], ◌∷◌, ◌++◌, ℕ, zero, suc, ◌+◌, ◌-◌, ◌*◌, ◌/◌, ◌%◌, ◌^◌, ◌<◌, ◌≤◌, T, ltb, eqb, length, get_or, set, take, drop, Result, IfOk, OnOk, ⊤}
use Rattle.std.proofs.lemmas.List.Edits.{sets}
use Rattle.words.specs.Answers.{◌when◌, first_applying}
use Rattle.words.specs.InnerResults.{answered}
use Rattle.words.specs.Bytes.{bit}
use Rattle.words.specs.declared.refusal.Refusal.{Refusal}
use Rattle.words.specs.Loops.{each}
use Rattle.mode.specs.Table.{row, has_depth, pce-sprite}
use Rattle.mapentry.specs.Entry.{entry_bytes, IsEntry}
use Rattle.mapentry.specs.declared.Mapentry.{Mapentry}
use Rattle.tile.specs.Tile.{packed, unpacked}
use Rattle.tileset.specs.Finding.{look_up}
use Rattle.tileset.specs.Keeping.{keep}
use Rattle.tileset.specs.Numbers.{first_cell}
use Rattle.tileset.specs.declared.Found.{Found}
use Rattle.tileset.specs.declared.Found.TheVariants.{At, Nothing}
use Rattle.index.specs.InnerKeys.{key}
use Rattle.index.specs.Inner.{key_at, IsEmpty, Indexed, Searches, Enters}
use Rattle.picture.specs.Cells.{cut_tile}
use Rattle.picture.specs.Entries.{entry_as, tile_named}
use Rattle.picture.specs.Converting.{places, picture_room, asked_checks}
use Rattle.picture.specs.Continuing.{unpacked_tiles, stored_after, found_after, goes_on_checks}
use Rattle.picture.specs.Redrawing.{entry_at, drawn_tile}
use Rattle.picture.specs.declared.Settings.{Settings}
use Rattle.picture.specs.declared.Counts.{Counts}
use Rattle.picture.specs.declared.stored.Source.{Source}
use Rattle.picture.specs.declared.stored.Store.{Store}

-- The checks of a conversion that count no tiles.
unfoldable pub asked_says : Settings → ℕ → ℕ → ℕ
asked_says z len map_space = first_applying (asked_checks z len map_space)

-- Settings that pass them, with a picture of so many pixels.
pub record IsPicture (z : Settings) (len : ℕ) : Type 0 where
  pub mode : z.mode < 16
  pub map : z.mode ≡ pce-sprite → ⊥
  pub depth : T (has_depth z.mode z.depth)
  pub deep : z.depth ≤ 8
  pub some : 0 < z.columns
  pub narrow : z.columns ≤ 64
  pub low : z.rows ≤ 64
  pub flips : (z.flip && eqb (row z.mode).flips 0) ≡ false
  pub whole : len ≡ 64 * places z
  pub palette : z.palette < 2 ^ (row z.mode).palette

-- A picture that can go on after so many tiles and so many entries, where buffers have these lengths.
pub record CanGoOn (z : Settings) (held first len tile_space map_space : ℕ) : Type 0 where
  pub picture : IsPicture z len
  pub room : held ≤ picture_room z tile_space
  pub few : first + places z ≤ 4096
  pub space : (first + places z) * (row z.mode).entry ≤ map_space

-- The checks that count its tiles.
unfoldable pub goes_on_says : Settings → List ℕ → List (List ℕ) → ℕ → ℕ → ℕ
goes_on_says z pixels had discarded tile_space = first_applying (goes_on_checks z pixels had discarded tile_space)

-- Tile i of a picture, in rows of so many tiles.
pub record HasTile (depth : ℕ) (pixels : List ℕ) (columns i : ℕ) : Type 0 where
  pub deep : depth ≤ 8
  pub some : 0 < columns
  pub narrow : columns ≤ 64
  pub few : i < 4096
  pub inside : i / columns * 8 * (columns * 8) + i % columns * 8 + 7 * (columns * 8) + 8 ≤ length pixels

abbrev pub tile_at : Settings → List ℕ → ℕ → List ℕ
tile_at z pixels i = cut_tile z.depth 8 8 z.columns pixels i

-- A place with its flip as one number, until the map is written; and its entry.
abbrev pub code_of : Found → ℕ
code_of (At k f) = k.0 * 4 + bit f.h + 2 * bit f.v
code_of Nothing = 0

abbrev pub entry_coded : ℕ → ℕ → ℕ → Mapentry
entry_coded m palette code = entry_as (first_cell m 8 8 (code / 4)) palette (eqb (code % 2) 1) (eqb (code / 2 % 2) 1)

-- ---- the tiles that are stored

-- Tile k of a tile buffer, which is there.
pub record HasWritten (m d : ℕ) (bytes : List ℕ) (k : ℕ) : Type 0 where
  pub mode : m < 16
  pub map : m ≡ pce-sprite → ⊥
  pub depth : T (has_depth m d)
  pub inside : k * (d * 8) + d * 8 ≤ length bytes

-- Stored tile k: the first held are written, and each of the others is the tile of the picture that `from` names.
unfoldable pub stored_tile : Settings → List ℕ → List ℕ → ℕ → List ℕ → ℕ → List ℕ
stored_tile z pixels bytes held from k =
    cond (ltb k held) (unpacked z.mode z.depth 8 8 (take (z.depth * 8) (drop (k * (z.depth * 8)) bytes))) (tile_at z pixels (get_or from k 0))

unfoldable pub stored_tiles : Settings → List ℕ → List ℕ → ℕ → List ℕ → ℕ → List (List ℕ)
stored_tiles z pixels bytes held from zero = []
stored_tiles z pixels bytes held from (suc n) = stored_tiles z pixels bytes held from n ++ stored_tile z pixels bytes held from n ∷ []

-- So many stored tiles, all of which are there.
pub record Stored (z : Settings) (pixels bytes : List ℕ) (held : ℕ) (from : List ℕ) (count : ℕ) : Type 0 where
  pub picture : IsPicture z (length pixels)
  pub written : held * (z.depth * 8) ≤ length bytes
  pub few : count ≤ 4096
  pub long : length from ≡ 4096
  pub taken : (k : ℕ) → held ≤ k → k < count → get_or from k 0 < places z

-- The tiles of a store, the first n of them, and tile k.
abbrev pub tile_of : Source → Store → ℕ → List ℕ
tile_of s t k = stored_tile s.settings s.pixels.now s.tiles.now t.held t.from k

abbrev pub first_tiles : Source → Store → ℕ → List (List ℕ)
first_tiles s t n = stored_tiles s.settings s.pixels.now s.tiles.now t.held t.from n

abbrev pub tiles_of : Source → Store → List (List ℕ)
tiles_of s t = first_tiles s t t.count

abbrev pub HasStored : Source → Store → ℕ → Type 0
HasStored s t n = Stored s.settings s.pixels.now s.tiles.now t.held t.from n

-- Looking at stored tile k, and a search among all, where q is the key of the tile.
pub record LooksAt (s : Source) (t : Store) (k : ℕ) (tile : List ℕ) (q : ℕ) : Type 0 where
  pub stored : HasStored s t (suc k)
  pub keyed : key_at t.index k ≡ key s.settings.flip (tile_of s t k)
  pub its : q ≡ key s.settings.flip tile

pub record Finds (s : Source) (t : Store) (tile : List ℕ) (q : ℕ) : Type 0 where
  pub stored : HasStored s t t.count
  pub search : Searches s.settings.flip (tiles_of s t) t.index tile q

-- The tiles that are written, before any has its place in the index; and with it.
pub record IndexesWritten (s : Source) (t : Store) : Type 0 where
  pub stored : HasStored s t t.held
  pub none : t.count ≡ 0
  pub empty : IsEmpty t.index

pub record Indexes (s : Source) (t : Store) (n : ℕ) (after : Store) : Type 0 where
  pub count : after.count ≡ n
  pub held : after.held ≡ t.held
  pub from : after.from ≡ t.from
  pub index : Indexed s.settings.flip (first_tiles s t n) after.index

-- ---- one tile more

-- Tile i of the picture at the end, where there is room: q is its key, and found what a look-up found of it. "No room for the tiles" is 12.
pub record Stores (t : Store) (room i : ℕ) : Type 0 where
  pub within : t.count ≤ room
  pub most : room ≤ 4096
  pub long : length t.from ≡ 4096
  pub inside : i < 4096

pub record StoredAt (t : Store) (i q : ℕ) (found : Found) (after : Store) : Type 0 where
  pub held : after.held ≡ t.held
  pub count : after.count ≡ t.count + 1
  pub from : after.from ≡ set t.from t.count i
  pub entered : Enters t.index t.count q found after.index

pub record StoredAs (t : Store) (room i q : ℕ) (found : Found) (after : Store) (r : Result ⊤ Refusal) : Type 0 where
  pub says : answered r ≡ 12 when ltb room (t.count + 1)
  pub values : OnOk r (StoredAt t i q found after)

-- Stored tiles with their index, and tile i of the picture.
pub record Keeps (s : Source) (t : Store) (room i : ℕ) : Type 0 where
  pub stored : HasStored s t t.count
  pub above : t.held ≤ t.count
  pub within : t.count ≤ room
  pub most : room ≤ 4096
  pub index : Indexed s.settings.flip (tiles_of s t) t.index
  pub inside : i < places s.settings

-- These are the stored tiles, with their index, where so many are written.
pub record Entered (s : Source) (held : ℕ) (tiles : List (List ℕ)) (t : Store) : Type 0 where
  pub still : t.held ≡ held
  pub stored : HasStored s t t.count
  pub above : t.held ≤ t.count
  pub is : tiles_of s t ≡ tiles
  pub index : Indexed s.settings.flip tiles t.index

-- What becomes of a tile, where these tiles are due and this code.
pub record KeptWith (s : Source) (held : ℕ) (tiles : List (List ℕ)) (room code : ℕ) (after : Store) (place : ℕ) : Type 0 where
  pub within : after.count ≤ room
  pub entered : Entered s held tiles after
  pub coded : place ≡ code

pub record TakenAs (s : Source) (held : ℕ) (tiles : List (List ℕ)) (room code : ℕ) (after : Store) (r : Result ℕ Refusal) : Type 0 where
  pub says : answered r ≡ 12 when ltb room (length tiles)
  pub values : IfOk r (λ place. KeptWith s held tiles room code after place)

-- Tile i more after those of a store: what is kept then, and how the tile is found in it.
abbrev pub kept_after : Source → Store → ℕ → List (List ℕ)
kept_after s t i = keep s.settings.discard s.settings.flip 8 8 (tiles_of s t) (tile_at s.settings s.pixels.now i)

abbrev pub KeptAs : Source → Store → ℕ → ℕ → Store → Result ℕ Refusal → Type 0
KeptAs s t room i after r = TakenAs s t.held (kept_after s t i) room (code_of (look_up s.settings.flip 8 8 (kept_after s t i) (tile_at s.settings s.pixels.now i))) after r

-- ---- every tile of a picture, after those that are written

pub record Gathers (s : Source) (t : Store) (room : ℕ) (codes : List ℕ) : Type 0 where
  pub stored : HasStored s t t.count
  pub written : t.count ≡ t.held
  pub within : t.held ≤ room
  pub most : room ≤ 4096
  pub index : Indexed s.settings.flip (tiles_of s t) t.index
  pub long : length codes ≡ 4096

pub record GatheredWith (s : Source) (room : ℕ) (t : Store) (codes : List ℕ) : Type 0 where
  pub within : t.count ≤ room
  pub above : t.held ≤ t.count
  pub stored : HasStored s t t.count
  pub is : tiles_of s t ≡ stored_after s.settings s.pixels.now (unpacked_tiles s.settings s.tiles.now t.held)
  pub coded : (i : ℕ) → i < places s.settings → get_or codes i 0 ≡ code_of (found_after s.settings s.pixels.now (unpacked_tiles s.settings s.tiles.now t.held) i)

-- "No room for the tiles" (12), or all of them, and the code of each tile's place among them.
pub record GatheredAs (s : Source) (t : Store) (room : ℕ) (after : Store) (codes : List ℕ) (r : Result ⊤ Refusal) : Type 0 where
  pub says : answered r ≡ 12 when ltb room (length (stored_after s.settings s.pixels.now (unpacked_tiles s.settings s.tiles.now t.held)))
  pub values : OnOk r ((after.held ≡ t.held) × GatheredWith s room after codes)

-- ---- writing

-- The stored tiles that are not written, and some entries, from entry first on, that can be written; and their bytes.
pub record PutsTiles (z : Settings) (pixels : List ℕ) (t : Store) (tiles : List ℕ) : Type 0 where
  pub stored : Stored z pixels tiles t.held t.from t.count
  pub above : t.held ≤ t.count
  pub space : t.count * (z.depth * 8) ≤ length tiles

pub record PutsMap (m palette first count : ℕ) (codes map : List ℕ) : Type 0 where
  pub few : first + count ≤ 4096
  pub mode : m < 16
  pub entries : (i : ℕ) → i < count → IsEntry m (entry_coded m palette (get_or codes i 0))
  pub space : (first + count) * (row m).entry ≤ length map

abbrev pub put_tiles : Settings → List ℕ → Store → List ℕ
put_tiles z pixels t = each (t.count - t.held) (λ k. packed z.mode z.depth 8 8 (tile_at z pixels (get_or t.from (t.held + k) 0)))

abbrev pub put_entries : ℕ → ℕ → List ℕ → ℕ → List ℕ
put_entries m palette codes count = each count (λ i. entry_bytes m (entry_coded m palette (get_or codes i 0)))

-- Both, where so many are discarded; and what is then written and answered.
pub record PutsPicture (z : Settings) (pixels : List ℕ) (t : Store) (codes : List ℕ) (discarded first : ℕ) (tiles map : List ℕ) : Type 0 where
  pub as_tiles : PutsTiles z pixels t tiles
  pub as_map : PutsMap z.mode z.palette first (places z) codes map
  pub small : discarded ≤ 4294967295

pub record PutAs (z : Settings) (pixels : List ℕ) (t : Store) (codes : List ℕ) (discarded first : ℕ) (tiles map : List ℕ) (r : Counts) (tiles_after map_after : List ℕ) : Type 0 where
  pub answer : r ≡ record { tiles = t.count; discarded = discarded; tile_bytes = t.count * (z.depth * 8); map_bytes = (first + places z) * (row z.mode).entry }
  pub lent : tiles_after ≡ sets tiles (t.held * (z.depth * 8)) (put_tiles z pixels t)
  pub also_lent : map_after ≡ sets map (first * (row z.mode).entry) (put_entries z.mode z.palette codes (places z))

-- ---- redrawing

-- So many entries of a map.
pub record HasEntries (m count : ℕ) (map : List ℕ) : Type 0 where
  pub mode : m < 16
  pub some : 0 < (row m).entry
  pub few : count ≤ 4096
  pub inside : count * (row m).entry ≤ length map

-- An entry whose tile is there, to be drawn from place at of out on.
pub record DrawsTile (m d : ℕ) (tiles : List ℕ) (e : Mapentry) (out : List ℕ) (at : ℕ) : Type 0 where
  pub mode : m < 16
  pub map : m ≡ pce-sprite → ⊥
  pub depth : T (has_depth m d)
  pub inside : tile_named m 8 8 e * (d * 8) + d * 8 ≤ length tiles
  pub space : at + 64 ≤ length out

-- A row of tiles, from entry first of the map on, and a whole picture, that can be drawn.
pub record DrawsStrip (m d columns first : ℕ) (tiles map out : List ℕ) : Type 0 where
  pub mode : m < 16
  pub mapped : m ≡ pce-sprite → ⊥
  pub depth : T (has_depth m d)
  pub few : first + columns ≤ 4096
  pub inside : (first + columns) * (row m).entry ≤ length map
  pub named : (x : ℕ) → x < columns → tile_named m 8 8 (entry_at m map (first + x)) * (d * 8) + d * 8 ≤ length tiles
  pub space : columns * 64 ≤ length out

pub record Draws (m d columns rows : ℕ) (tiles map out : List ℕ) : Type 0 where
  pub mode : m < 16
  pub mapped : m ≡ pce-sprite → ⊥
  pub depth : T (has_depth m d)
  pub narrow : columns ≤ 64
  pub low : rows ≤ 64
  pub whole : columns * rows * (row m).entry ≤ length map
  pub named : (i : ℕ) → i < columns * rows → tile_named m 8 8 (entry_at m map i) * (d * 8) + d * 8 ≤ length tiles
  pub space : 64 * (columns * rows) ≤ length out

-- The tiles of a row, one after the other, and one line of their pixels.
abbrev pub strip_of : ℕ → ℕ → ℕ → ℕ → List ℕ → List ℕ → List ℕ
strip_of m d columns first tiles map = each columns (λ x. drawn_tile m d tiles (entry_at m map (first + x)))

abbrev pub pixel_line : List ℕ → ℕ → ℕ → List ℕ
pixel_line strip columns y = each columns (λ x. each 8 (λ j. get_or strip (x * 64 + y * 8 + j) 0 ∷ []))

-- A line, and eight, that can be put from place at of out on.
pub record PutsLines (strip : List ℕ) (columns lines : ℕ) (out : List ℕ) (at : ℕ) : Type 0 where
  pub narrow : columns ≤ 64
  pub long : columns * 64 ≤ length strip
  pub space : at + lines * (columns * 8) ≤ length out
