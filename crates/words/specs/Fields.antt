-- A word made of fields, counted from bit 0. Six values, numbered 0 to 5, stand in the fields; value 5 is the unused bits.
-- A value that has several fields fills them from its lowest bits.
-- Assumes nothing.
use Rattle.std.specs.Prelude.{ℕ, ◌+◌, ◌*◌, ◌/◌, ◌%◌, ◌^◌, List, [], ◌∷◌, get_or, set, replicate}

-- Which value stands in a field, and how many bits of it.
pub record Field : Type 0 where
  pub value : ℕ
  pub bits : ℕ

abbrev pub field : ℕ → ℕ → Field
field value bits = record { value = value; bits = bits }

-- "Bits not named are written 0 and ignored in reading."
abbrev pub unused : ℕ → Field
unused bits = field 5 bits

-- The word that holds the values vs.
abbrev pub join : List Field → List ℕ → ℕ
join [] vs = 0
join (f ∷ fs) vs =
    get_or vs f.value 0 % 2 ^ f.bits
    + 2 ^ f.bits * join fs (set vs f.value (get_or vs f.value 0 / 2 ^ f.bits))

-- The values that a word holds.
abbrev pub split : List Field → ℕ → List ℕ
split [] word = replicate 6 0
split (f ∷ fs) word =
    set (split fs (word / 2 ^ f.bits)) f.value
    (word % 2 ^ f.bits + 2 ^ f.bits * get_or (split fs (word / 2 ^ f.bits)) f.value 0)
