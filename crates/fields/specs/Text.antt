-- 01, "The sheet": the fields that the writer writes.
use Rattle.std.specs.Prelude.{ℕ, zero, suc, ◌+◌, ◌/◌, ◌%◌, cond, List, [], ◌∷◌, ◌++◌, ltb, None, Option, Some}
use Rattle.fields.specs.Form.{dash}

-- the byte of a digit below 16
unfoldable pub digit_byte : ℕ → ℕ
digit_byte d = cond (ltb d 10) (d + 48) (d + 55)

-- v in so many digits of the base
unfoldable pub digits_of : ℕ → ℕ → ℕ → List ℕ
unfolding digit_byte
digits_of base zero v = []
digits_of base (suc width) v = digits_of base width (v / base) ++ (digit_byte (v % base) ∷ [])

-- the number, and the byte after it
abbrev pub number_text : ℕ → ℕ → ℕ → ℕ → List ℕ
number_text base width e v = digits_of base width v ++ (e ∷ [])

-- "`-` is none", or the number in so many hexadecimal digits; and the byte after it
unfoldable pub optional_text : ℕ → ℕ → Option ℕ → List ℕ
unfolding digits_of
optional_text width e None = dash ∷ e ∷ []
optional_text width e (Some v) = number_text 16 width e v

-- how many decimal digits the number v has, if at most `most`
unfoldable pub places_of : ℕ → ℕ → ℕ
places_of zero v = 0
places_of (suc most) v = cond (ltb v 10) 1 (suc (places_of most (v / 10)))

-- "decimal without leading zeros": as many digits as the number has. Targets, lines and sample numbers are below 2^32 and have ten at most.
abbrev pub decimal_text : ℕ → ℕ → List ℕ
decimal_text e v = number_text 10 (places_of 10 v) e v
