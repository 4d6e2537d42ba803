-- The inner shapes of colours: where the code finds each value of a colour's word, computed from the fields of document 01.
-- Assumes nothing.
use Rattle.std.specs.Prelude.{ℕ, ◌+◌, ◌*◌, ◌-◌, ◌/◌, ◌%◌, ◌^◌, ◌<◌, ◌≤◌, ◌≡◌, false, cond, List, ◌++◌, length, get_or, take, drop}
use Rattle.words.specs.Bytes.{bytes_of, word_of}
use Rattle.words.specs.Loops.{some}
use Rattle.color.specs.Color.{above, opaque}
use Rattle.color.specs.declared.color_places.ColorPlaces.{ColorPlaces}

-- ---- packing

-- The word that holds values at the places.
abbrev pub word_with : ColorPlaces → ℕ → ℕ → ℕ → ℕ → ℕ
word_with l a b c d = a * 2 ^ l.first + b * 2 ^ l.second + c * 2 ^ l.third + d * 2 ^ l.fourth

-- The gray of colour i.
abbrev pub gray_in : ℕ → List ℕ → ℕ → ℕ
gray_in top cs i = top - get_or cs (4 * i) 0

abbrev pub color_word : ColorPlaces → List ℕ → ℕ → ℕ
color_word l cs i =
    cond l.gray (word_with l (gray_in l.top cs i) 0 0 0)
    (word_with l (get_or cs (4 * i) 0) (get_or cs (4 * i + 1) 0) (get_or cs (4 * i + 2) 0) 0)

abbrev pub four_word : ColorPlaces → List ℕ → ℕ
four_word l cs = word_with l (gray_in l.top cs 0) (gray_in l.top cs 1) (gray_in l.top cs 2) (gray_in l.top cs 3)

abbrev pub color_bytes : ColorPlaces → List ℕ → ℕ → List ℕ
color_bytes l cs i = bytes_of l.size l.most (color_word l cs i)

-- Colour i is there, and no component of it is above the top.
pub record Within (top : ℕ) (cs : List ℕ) (i : ℕ) : Type 0 where
  pub there : 4 * i + 3 < length cs
  pub low : above top cs i ≡ false

-- So are the first n.
pub record AllWithin (top : ℕ) (cs : List ℕ) (n : ℕ) : Type 0 where
  pub there : 4 * n ≤ length cs
  pub low : some n (above top cs) ≡ false

-- ---- unpacking

abbrev pub value_at : ℕ → ℕ → ℕ → ℕ
value_at w place bits = w / 2 ^ place % 2 ^ bits

abbrev pub gray_at : ColorPlaces → ℕ → ℕ → List ℕ
gray_at l w place =
    opaque (l.top - value_at w place l.bits) (l.top - value_at w place l.bits) (l.top - value_at w place l.bits)

abbrev pub color_from : ColorPlaces → ℕ → List ℕ
color_from l w =
    cond l.gray (gray_at l w l.first)
    (opaque (value_at w l.first l.bits) (value_at w l.second l.bits) (value_at w l.third l.bits))

abbrev pub four_from : ColorPlaces → ℕ → List ℕ
four_from l w = ((gray_at l w l.first ++ gray_at l w l.second) ++ gray_at l w l.third) ++ gray_at l w l.fourth

abbrev pub word_from : ColorPlaces → List ℕ → ℕ → ℕ
word_from l bs at = word_of l.most (take l.size (drop at bs))

-- The same as the code adds it: the bits at the top of eight, and as often again as they fit below.
abbrev pub copies : ℕ → ℕ → ℕ
copies bits x = x + x / 2 ^ bits + x / 2 ^ (bits + bits) + x / 2 ^ (bits + bits + bits)
