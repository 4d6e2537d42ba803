-- What the words of a sprite's cell hold, and where its rows stand among the sprite's pixels, by one test over the six sizes.
-- Assumes nothing.
use mathlib.Core.Path.{◌≡◌, refl, sym, ap, ap₂, ◌∙◌, subst}
use mathlib.Core.Bool.{Bool, false, ◌&&◌}
use mathlib.Core.List.{List}
use Prim.Native.Nat.{ℕ, zero, suc, ◌+◌, ◌*◌, ◌/◌, ◌%◌, ◌<◌}
use native.Mathlib.Omega.{arith}
use lib.Dec.{T, ltb, eqb, ltb→lt, eqb→eq}
use lib.ListN.{get_or}
use Rattle.words.specs.Inner.{word_at, byte_in, all}
use Rattle.words.proofs.Eights.{word-byte-at}
use Rattle.words.proofs.Items.{item-get_or, number_at}
use Rattle.words.proofs.Loops.{both_left, both_right, all-at}
use Rattle.tile.specs.Bits.{bit_of, from_bits}
use Rattle.tile.specs.Layout.{element}
use Rattle.tile.specs.Packings.{sprite_byte, sprite}
use Rattle.tile.specs.Inner.{is_packing, byte_of, word_from, HasWord, quarter, planes_at, quarter_words, cell_words}
use Rattle.tile.specs.declared.Packing.TheVariants.{Sprite}
use Rattle.tile.proofs.Bits.{bits-same}
use Rattle.tile.proofs.Packings.{sizes-at, cell_from}
use Rattle.tile.proofs.Scattered.{Turns}
use Rattle.tile.proofs.Sides.{word_byte}

-- ---- the words of a cell: word t has the pixels of byte t of each plane

module _ (xs : List ℕ) (small : (i : ℕ) → get_or xs i 0 < 256) where
  plane-is : (at p : ℕ) → p < 4 → get_or (planes_at xs at) p 0 ≡ word_at false xs (at + p * 32)
  plane-is at zero l = ap (word_at false xs) (omega arith)
  plane-is at (suc zero) l = refl
  plane-is at (suc (suc zero)) l = refl
  plane-is at (suc (suc (suc zero))) l = refl
  plane-is at (suc (suc (suc (suc p)))) l = absurd (omega arith)

  byte-is : (at p k : ℕ) → p < 4 → k < 8 → byte_of (planes_at xs at) (p * 8 + k) ≡ get_or xs (at + p * 32 + k) 0
  byte-is at p k lp lk =
      let word : (p * 8 + k) / 8 ≡ p = omega arith in
      let byte : (p * 8 + k) % 8 ≡ k = omega arith in
      ap₂ (λ (i m : ℕ). byte_in (get_or (planes_at xs at) i 0) m) word byte
      ∙ ap (λ (v : ℕ). byte_in v k) (plane-is at p lp)
      ∙ word-byte-at xs small false (at + p * 32) k lk

  pixel-is : (at k m : ℕ) → k < 8 → m < 8 → byte_in (word_from quarter (planes_at xs at) k) m ≡ from_bits 4 0 (λ p. bit_of m (get_or xs (at + k + p * 32) 0))
  pixel-is at k m lk lm =
      let byte : (k * 8 + m) / 8 ≡ k = omega arith in
      let bit : (k * 8 + m) % 8 ≡ m = omega arith in
      word_byte quarter (planes_at xs at) k m (omega arith) (λ j l. omega arith) lm
      ∙ bits-same 4 0 (λ p. bit_of ((k * 8 + m) % 8) (byte_of (planes_at xs at) (p * 8 + (k * 8 + m) / 8))) (λ p. bit_of m (get_or xs (at + k + p * 32) 0))
      (λ p z lp.
      ap₂ (λ (q i : ℕ). bit_of q (byte_of (planes_at xs at) (p * 8 + i))) bit byte
      ∙ ap (bit_of m) (byte-is at p k (omega arith) lk ∙ ap (λ (i : ℕ). get_or xs i 0) (omega arith)))

  cell-pixel : (from t m : ℕ) → t < 32 → m < 8 → byte_in (get_or (cell_words xs from) t 0) m ≡ from_bits 4 0 (λ p. bit_of m (get_or xs (from + t + p * 32) 0))
  cell-pixel from t m lt lm =
      let whole : t / 8 * 8 + t % 8 ≡ t = omega arith in
      let there : from + t / 8 * 8 + t % 8 ≡ from + t = omega arith in
      ap (λ (i : ℕ). byte_in (get_or (cell_words xs from) i 0) m) (sym whole)
      ∙ ap (λ (v : ℕ). byte_in v m)
      (item-get_or 8 (λ j. quarter_words xs (from + j * 8)) (λ j. refl) 4 (t / 8) (omega arith) (t % 8) (omega arith)
      ∙ number_at 8 (word_from quarter (planes_at xs (from + t / 8 * 8))) (t % 8) (omega arith))
      ∙ pixel-is (from + t / 8 * 8) (t % 8) m (omega arith) lm
      ∙ ap (λ (i : ℕ). from_bits 4 0 (λ p. bit_of m (get_or xs (i + p * 32) 0))) there

-- ---- word t of cell c is this one of the sprite's words; and when a word has its turn, cell by cell

abbrev pub sprite_word : ℕ → ℕ → ℕ → ℕ → ℕ
sprite_word w h c t = (c % (h / 16) * 16 + t / 2) * (w / 8) + c / (h / 16) * 2 + t % 2

abbrev pub sprite_turn : ℕ → ℕ → ℕ → ℕ
sprite_turn w h i = (i % (w / 8) / 2 * (h / 16) + i / (w / 8) / 16) * 32 + (i / (w / 8) % 16 * 2 + i % 2)

abbrev pixel_test : ℕ → ℕ → ℕ → ℕ → ℕ → ℕ → Bool
pixel_test w h c t m p =
    let i = sprite_word w h c t * 8 + m in
    eqb (c * 128 + t + p * 32) (sprite_byte h (i % w) (i / w) p) && eqb m (i % w % 8)

abbrev word_test : ℕ → ℕ → ℕ → ℕ → Bool
word_test w h c t =
    eqb (cell_from w h c + t / 2 * w + t % 2 * 8) (sprite_word w h c t * 8) && (ltb (sprite_word w h c t) (w * h / 8) && all 8 (λ m. all 4 (pixel_test w h c t m)))

abbrev turn_test : ℕ → ℕ → ℕ → Bool
turn_test w h i = ltb (sprite_turn w h i) (w / 16 * (h / 16) * 32) && eqb i (sprite_word w h (sprite_turn w h i / 32) (sprite_turn w h i % 32))

words-at : (w h : ℕ) → T (is_packing (Sprite w h)) → T (all (w / 16 * (h / 16)) (λ c. all 32 (word_test w h c)))
words-at = sizes-at (λ (w h : ℕ). all (w / 16 * (h / 16)) (λ c. all 32 (word_test w h c))) tt

turns_at : (w h : ℕ) → T (is_packing (Sprite w h)) → T (all (w * h / 8) (turn_test w h))
turns_at = sizes-at (λ (w h : ℕ). all (w * h / 8) (turn_test w h)) tt

module _ (w h : ℕ) (sound : T (is_packing (Sprite w h))) where
  pub in_words : w * h / 8 * 8 ≡ w * h
  in_words = eqb→eq _ _ (sizes-at (λ (w h : ℕ). eqb (w * h / 8 * 8) (w * h)) tt w h sound)

  module _ (c t : ℕ) (lc : c < w / 16 * (h / 16)) (lt : t < 32) where
    abbrev placed : Bool
    placed = eqb (cell_from w h c + t / 2 * w + t % 2 * 8) (sprite_word w h c t * 8)

    abbrev there : Bool
    there = ltb (sprite_word w h c t) (w * h / 8)

    abbrev pixels : Bool
    pixels = all 8 (λ m. all 4 (pixel_test w h c t m))

    tested : T (placed && (there && pixels))
    tested = all-at 32 (word_test w h c) (all-at (w / 16 * (h / 16)) (λ c. all 32 (word_test w h c)) (words-at w h sound) c lc) t lt

    rest : T (there && pixels)
    rest = both_right placed (there && pixels) tested

    word-place : cell_from w h c + t / 2 * w + t % 2 * 8 ≡ sprite_word w h c t * 8
    word-place = eqb→eq _ _ (both_left placed (there && pixels) tested)

    word-inside : sprite_word w h c t < w * h / 8
    word-inside = ltb→lt _ _ (both_left there pixels rest)

    -- its pixels are those of byte t of each plane of the cell
    cell-word-is : (bs : List ℕ) → ((i : ℕ) → get_or bs i 0 < 256)
        → HasWord (element (sprite w h).pixels bs) (sprite_word w h c t) (get_or (cell_words bs (c * 128)) t 0)
    cell-word-is bs small m lm =
        let i = sprite_word w h c t * 8 + m in
        cell-pixel bs small (c * 128) t m lt lm
        ∙ bits-same 4 0 (λ p. bit_of m (get_or bs (c * 128 + t + p * 32) 0)) (λ p. bit_of (i % w % 8) (get_or bs (sprite_byte h (i % w) (i / w) p) 0))
        (λ p a lp.
        let a = eqb (c * 128 + t + p * 32) (sprite_byte h (i % w) (i / w) p) in
        let b = eqb m (i % w % 8) in
        let pixel : T (all 4 (pixel_test w h c t m)) = all-at 8 (λ m. all 4 (pixel_test w h c t m)) (both_right there pixels rest) m lm in
        let test : T (a && b) = all-at 4 (pixel_test w h c t m) pixel p (omega arith) in
        ap₂ (λ (k q : ℕ). bit_of q (get_or bs k 0)) (eqb→eq _ _ (both_left a b test)) (eqb→eq _ _ (both_right a b test)))

  module _ (i : ℕ) (li : i < w * h / 8) where
    abbrev soon : Bool
    soon = ltb (sprite_turn w h i) (w / 16 * (h / 16) * 32)

    abbrev back : Bool
    back = eqb i (sprite_word w h (sprite_turn w h i / 32) (sprite_turn w h i % 32))

    turned : T (soon && back)
    turned = all-at (w * h / 8) (turn_test w h) (turns_at w h sound) i li

    pub turn-soon : sprite_turn w h i < w / 16 * (h / 16) * 32
    turn-soon = ltb→lt _ _ (both_left soon back turned)

    turn-its : (c t : ℕ) → t < 32 → sprite_turn w h i ≡ c * 32 + t → i ≡ sprite_word w h c t
    turn-its c t lt e =
        let cell : sprite_turn w h i / 32 ≡ c = omega arith in
        let word : sprite_turn w h i % 32 ≡ t = omega arith in
        eqb→eq _ _ (both_right soon back turned) ∙ ap₂ (sprite_word w h) cell word

  -- so the words of a cell have their turns one after the other
  pub cell-turns : (c at : ℕ) (bs ws : List ℕ) → c < w / 16 * (h / 16) → ((i : ℕ) → get_or bs i 0 < 256) → ws ≡ cell_words bs (c * 128)
      → Turns (sprite_turn w h) (element (sprite w h).pixels bs) at (w * h / 8) (c * 32) 32 (λ t. at + cell_from w h c + t / 2 * w + t % 2 * 8) (λ t. get_or ws t 0)
      (sprite_word w h c)
  cell-turns c at bs ws lc small e =
      record {
        placed = λ t lt. omega (arith, word-place c t lc lt);
        inside = λ t lt. word-inside c t lc lt;
        its = λ t i lt li q. turn-its i li c t lt q;
        has = λ t lt. subst (λ (l : List ℕ). HasWord (element (sprite w h).pixels bs) (sprite_word w h c t) (get_or l t 0)) (sym e) (cell-word-is c t lc lt bs small);
      }
