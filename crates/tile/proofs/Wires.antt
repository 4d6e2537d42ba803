-- The words that the code makes, written out, and by computed tests that they are those of the layouts.
-- Assumes nothing.
use mathlib.Core.Path.{◌≡◌, refl, ap, ◌∙◌}
use mathlib.Core.Bool.{Bool}
use mathlib.Core.List.{List, [], ◌∷◌}
use Prim.Native.Nat.{ℕ, zero, suc, ◌+◌, ◌*◌, ◌/◌, ◌%◌, ◌^◌, ◌<◌}
use native.Mathlib.Omega.{arith}
use lib.Dec.{T, ltb}
use lib.ListN.{get_or}
use lib.Pow.{pow_pos}
use Rattle.words.specs.Inner.{all}
use Rattle.words.proofs.Loops.{all-at}
use Rattle.mode.specs.Table.{one_of}
use Rattle.tile.specs.Layout.{Side}
use Rattle.tile.specs.Packings.{planar, ngp}
use Rattle.tile.specs.Inner.{Small, word_from, column, strands, cell, quarter, crossed, reversed_bytes, gathered, nibbles, row_pairs, row_nibbles}
use Rattle.tile.proofs.Packings.{each_at}
use Rattle.tile.proofs.Wiring.{Wire, given, down, up, keep, join, value, pick, merge, origin, is_from, suits, is_wired_in, wired-in}

-- for bit j of word b of a side: whether it has it, and from which word and which bit of it
abbrev live : Side → ℕ → Bool
live s j = ltb (j % 8) s.bits

abbrev word_of : Side → ℕ → ℕ → ℕ
word_of s b j = s.from (b * 8 + j / 8) (j % 8) / 8

abbrev bit_in : Side → ℕ → ℕ → ℕ
bit_in s b j = s.from (b * 8 + j / 8) (j % 8) % 8 * 8 + s.place (b * 8 + j / 8) (j % 8)

-- the wire of each of n words is as the side says
unfoldable pub is_side : Side → ℕ → (ℕ → Wire) → Bool
is_side s n w = all n (λ b. is_wired_in 64 (w b) (live s) (word_of s b) (bit_in s b))

pub word-is : (s : Side) (n : ℕ) (w : ℕ → Wire) → T (is_side s n w) → (ws : List ℕ) → Small ws → (b : ℕ) → b < n
    → value (λ i. get_or ws i 0) (w b) ≡ word_from s ws b
unfolding is_side word_from
word-is s n w t ws h b l =
    wired-in 64 (w b) (live s) (word_of s b) (bit_in s b)
    (all-at n (λ b. is_wired_in 64 (w b) (live s) (word_of s b) (bit_in s b)) t b l)
    (omega arith) (λ i. get_or ws i 0) h

-- ---- turning

unfoldable pub swap : ℕ → ℕ → ℕ → Wire → Wire
swap c m s w = join (join (keep w c) (up (keep w m) s)) (keep (down w s) m)

unfoldable pub cross : Wire → Wire
cross w =
    swap 0xf0f0f0f00f0f0f0f 0x00000000f0f0f0f0 28
    (swap 0xcccc3333cccc3333 0x0000cccc0000cccc 14 (swap 0xaa55aa55aa55aa55 0x00aa00aa00aa00aa 7 w))

unfoldable pub trade : ℕ → ℕ → Wire → Wire
trade m s w = join (up (keep w m) s) (keep (down w s) m)

unfoldable pub backwards : Wire → Wire
backwards w = let b : Wire = trade 0x0000ffff0000ffff 16 (trade 0x00ff00ff00ff00ff 8 w) in join (up b 32) (down b 32)

pub cross-value : (e : ℕ → ℕ) (w : Wire) → crossed (value e w) ≡ value e (cross w)
unfolding crossed value cross swap
cross-value e w = refl

pub backwards-value : (e : ℕ → ℕ) (w : Wire) → reversed_bytes (value e w) ≡ value e (backwards w)
unfolding reversed_bytes value backwards trade
backwards-value e w = refl

-- a word of wires that is turned round and crossed
pub turned-is : (s : Side) (n : ℕ) (w : ℕ → Wire) → T (is_side s n (λ b. cross (backwards (w b)))) → (ws : List ℕ) → Small ws → (b x y : ℕ) → b < n
    → x ≡ reversed_bytes (value (λ i. get_or ws i 0) (w b)) → y ≡ crossed x → y ≡ word_from s ws b
turned-is s n w t ws h b x y l e f =
    let g : ℕ → ℕ = λ i. get_or ws i 0 in
    f ∙ ap crossed (e ∙ backwards-value g (w b)) ∙ cross-value g (backwards (w b)) ∙ word-is s n (λ b. cross (backwards (w b))) t ws h b l

columns-wire : T (is_side column 1 (λ b. backwards (cross (given 0))))
unfolding is_side is_wired_in cross backwards swap trade origin pick merge is_from suits
columns-wire = tt

pub one-small : (v : ℕ) → v < 2 ^ 64 → Small (v ∷ [])
one-small v l zero = l
one-small v l (suc i) = pow_pos 64

pub four-small : {a b c d : ℕ} → a < 2 ^ 64 → b < 2 ^ 64 → c < 2 ^ 64 → d < 2 ^ 64 → Small (a ∷ b ∷ c ∷ d ∷ [])
four-small la lb lc ld zero = la
four-small la lb lc ld (suc zero) = lb
four-small la lb lc ld (suc (suc zero)) = lc
four-small la lb lc ld (suc (suc (suc zero))) = ld
four-small la lb lc ld (suc (suc (suc (suc i)))) = pow_pos 64

pub columns-is : (v : ℕ) → v < 2 ^ 64 → reversed_bytes (crossed v) ≡ word_from column (v ∷ []) 0
unfolding value
columns-is v l =
    let e : ℕ → ℕ = λ i. get_or (v ∷ []) i 0 in
    ap reversed_bytes (cross-value e (given 0)) ∙ backwards-value e (cross (given 0))
    ∙ word-is column 1 (λ b. backwards (cross (given 0))) columns-wire (v ∷ []) (one-small v l) 0 (omega arith)

-- ---- planes: g bits of each byte of 8 / g words, and g bytes of each

-- word i, moved down by s, as far as m keeps it, and up by u
unfoldable pub part : ℕ → ℕ → ℕ → ℕ → Wire
part i s m u = up (keep (down (given i) s) m) u

unfoldable pub one : ℕ → ℕ → ℕ → Wire
one i s m = keep (down (given i) s) m

-- the words at, at + 1, ..
unfoldable pub eight : ℕ → ℕ → Wire
eight at s =
    let m : ℕ = 0x0101010101010101 in
    let up : ℕ → Wire = λ k. part (at + k) s m k in
    join (join (join (join (join (join (join (one at s m) (up 1)) (up 2)) (up 3)) (up 4)) (up 5)) (up 6)) (up 7)

pub eight-value : (ws : List ℕ) (at s : ℕ) → gathered ws at s ≡ value (λ i. get_or ws i 0) (eight at s)
unfolding gathered value eight one part
eight-value ws at s = refl

-- the words at, at + n, ..
unfoldable pub four : ℕ → ℕ → ℕ → ℕ → ℕ → Wire
four at n s m u = join (join (join (one at s m) (part (at + n) s m u)) (part (at + n * 2) s m (u * 2))) (part (at + n * 3) s m (u * 3))

unfoldable pub two : ℕ → ℕ → ℕ → ℕ → ℕ → Wire
two at n s m u = join (one at s m) (part (at + n) s m u)

unfoldable pub ones : ℕ → Wire
ones b = eight 0 b

unfoldable pub pairs : ℕ → Wire
pairs b = four (b % 2 * 4) 1 (b / 2 * 2) 0x0303030303030303 2

unfoldable pub fours : ℕ → Wire
fours b = two (b % 4 * 2) 1 (b / 4 * 4) 0x0f0f0f0f0f0f0f0f 4

unfoldable pub one_row : ℕ → Wire
one_row r = eight 0 r

unfoldable pub pair_row : ℕ → Wire
pair_row r = four (r / 4) 2 (r % 4 * 2) 0x0303030303030303 2

unfoldable pub four_row : ℕ → Wire
four_row r = two (r / 2) 4 (r % 2 * 4) 0x0f0f0f0f0f0f0f0f 4

unfoldable pub cell_plane : ℕ → Wire
cell_plane b = cross (eight (b % 4 * 8) (b / 4))

pub ones-are : T (is_side (planar 1 8 8 8).bytes 8 (λ b. cross (backwards (ones b))))
unfolding is_side is_wired_in ones eight one part cross backwards swap trade origin pick merge is_from suits
ones-are = tt

pub pairs-are : T (is_side (planar 2 8 8 8).bytes 8 (λ b. cross (backwards (pairs b))))
unfolding is_side is_wired_in pairs four one part cross backwards swap trade origin pick merge is_from suits
pairs-are = tt

pub fours-are : T (is_side (planar 4 8 8 8).bytes 8 (λ b. cross (backwards (fours b))))
unfolding is_side is_wired_in fours two one part cross backwards swap trade origin pick merge is_from suits
fours-are = tt

pub one-row-is : T (is_side (strands 1) 8 one_row)
unfolding is_side is_wired_in one_row eight one part origin pick merge is_from suits
one-row-is = tt

pub pair-row-is : T (is_side (strands 2) 8 pair_row)
unfolding is_side is_wired_in pair_row four one part origin pick merge is_from suits
pair-row-is = tt

pub four-row-is : T (is_side (strands 4) 8 four_row)
unfolding is_side is_wired_in four_row two one part origin pick merge is_from suits
four-row-is = tt

pub cell-plane-is : T (is_side cell 16 cell_plane)
unfolding is_side is_wired_in cell_plane eight one part cross swap origin pick merge is_from suits
cell-plane-is = tt

-- ---- a cell's pixels out of its planes

unfoldable pub sides : ℕ → ℕ → ℕ → Wire → Wire → Wire
sides s n m v w = join (keep (down v s) m) (up (keep (down w s) m) n)

unfoldable pub bits_of : ℕ → Wire
bits_of k =
    sides (k / 2 * 2) 2 0x3333333333333333 (sides (k % 2) 1 0x5555555555555555 (given 0) (given 1)) (sides (k % 2) 1 0x5555555555555555 (given 2) (given 3))

unfoldable pub pixels : ℕ → Wire
pixels k =
    let x : Wire = sides (k % 2 * 8) 8 0x00ff00ff00ff00ff (bits_of 0) (bits_of 1) in
    let y : Wire = sides (k % 2 * 8) 8 0x00ff00ff00ff00ff (bits_of 2) (bits_of 3) in
    let z : Wire = keep (down (sides (k / 2 % 2 * 16) 16 0x0000ffff0000ffff x y) (k / 4 * 32)) 0x00000000ffffffff in
    keep (join z (up z 28)) 0x0f0f0f0f0f0f0f0f

pub pixels-are : T (is_side quarter 8 pixels)
unfolding is_side is_wired_in pixels bits_of sides origin pick merge is_from suits
pixels-are = tt

-- ---- nibbles and ngp

-- w with what is s places up, as far as m keeps them; and with what is u places down beside it
unfoldable pub fold : ℕ → ℕ → Wire → Wire
fold s m w = keep (join w (down w s)) m

unfoldable pub close : ℕ → ℕ → ℕ → Wire → Wire
close u s m w = keep (join (up w u) (down w s)) m

unfoldable pub pairs_of : ℕ → Wire
pairs_of i = close 8 32 0x000000000000ffff (close 4 16 0x000000ff000000ff (close 2 8 0x000f000f000f000f (keep (given i) 0x0303030303030303)))

unfoldable pub nibbles_of : ℕ → ℕ → Wire
nibbles_of u i =
    fold 16 0x00000000ffffffff (fold 8 0x0000ffff0000ffff (close u (u + 4) 0x00ff00ff00ff00ff (keep (given i) 0x0f0f0f0f0f0f0f0f)))

pub pairs-value : (e : ℕ → ℕ) (i : ℕ) → row_pairs (e i) ≡ value e (pairs_of i)
unfolding row_pairs value pairs_of close
pairs-value e i = refl

pub nibbles-value : (e : ℕ → ℕ) (u i : ℕ) → row_nibbles u (e i) ≡ value e (nibbles_of u i)
unfolding row_nibbles value nibbles_of fold close
nibbles-value e u i = refl

unfoldable pub ngps : ℕ → Wire
ngps b = join (join (join (pairs_of (b * 4)) (up (pairs_of (b * 4 + 1)) 16)) (up (pairs_of (b * 4 + 2)) 32)) (up (pairs_of (b * 4 + 3)) 48)

unfoldable pub nibble_words : ℕ → ℕ → Wire
nibble_words u b = join (nibbles_of u (b * 2)) (up (nibbles_of u (b * 2 + 1)) 32)

unfoldable pub widen_by : ℕ → ℕ → Wire → Wire
widen_by s m w = keep (join w (up w s)) m

unfoldable pub apart : ℕ → Wire
apart r =
    let x : Wire = down (given (r / 2)) (r % 2 * 32) in
    widen_by 8 0x00ff00ff00ff00ff (keep (join (keep x 0x00000000ffffffff) (up x 16)) 0x0000ffff0000ffff)

unfoldable pub spread_by : ℕ → ℕ → ℕ → Wire → Wire
spread_by s u m w = keep (join (down w s) (up w u)) m

unfoldable pub nibble_row : ℕ → ℕ → Wire
nibble_row u r = spread_by u (u + 4) 0x0f0f0f0f0f0f0f0f (apart r)

unfoldable pub ngp_row : ℕ → Wire
ngp_row r =
    let x : Wire = down (given (r / 4)) (r % 4 * 16) in
    let y : Wire = keep (join (keep (down x 8) 0x00000000000000ff) (up x 32)) 0x000000ff000000ff in
    spread_by 2 8 0x0303030303030303 (spread_by 4 16 0x000f000f000f000f y)

pub ngps-are : T (is_side (ngp 8 8).bytes 2 ngps)
unfolding is_side is_wired_in ngps pairs_of close origin pick merge is_from suits
ngps-are = tt

pub nibbles-are : (u : ℕ) → T (one_of u (0 ∷ 4 ∷ [])) → T (is_side (nibbles u).bytes 4 (nibble_words u))
unfolding is_side is_wired_in nibble_words nibbles_of fold close origin pick merge is_from suits
nibbles-are u t = each_at (0 ∷ 4 ∷ []) (λ u. is_side (nibbles u).bytes 4 (nibble_words u)) tt u t

pub nibble-row-is : (u : ℕ) → T (one_of u (0 ∷ 4 ∷ [])) → T (is_side (nibbles u).pixels 8 (nibble_row u))
unfolding is_side is_wired_in nibble_row apart widen_by spread_by origin pick merge is_from suits
nibble-row-is u t = each_at (0 ∷ 4 ∷ []) (λ u. is_side (nibbles u).pixels 8 (nibble_row u)) tt u t

pub ngp-row-is : T (is_side (ngp 8 8).pixels 8 ngp_row)
unfolding is_side is_wired_in ngp_row spread_by origin pick merge is_from suits
ngp-row-is = tt
