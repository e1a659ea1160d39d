-- 01, "The sheet": the fields of a line. A form looks at the front of the bytes. It finds a value there and leaves the bytes after it, or the line breaks the sheet's form.
use Rattle.std.specs.Prelude.{ℕ, zero, suc, ◌+◌, ◌-◌, ◌*◌, Bool, false, cond, ltb, eqb, nat_eq, None, Option, Some}
use Rattle.std.specs.List as slices
use Prim.Native.Char.{code}
use Prim.Native.String as string
use Prim.Native.String.{String}
use mathlib.Core.List.{List, [], ◌∷◌, tail}

-- the line breaks the sheet's form, or the value that stands in front and the bytes after it
pub data Got (A : Type 0) : Type 0 where
  bad : Got A
  got : A → List ℕ → Got A

-- one form after another
abbrev pub then : {A B : Type 0} → Got A → (A → List ℕ → Got B) → Got B
then bad next = bad
then (got a l) next = next a l

-- "Fields have one space between them; each line ends in byte 0A." "`-` is none"
abbrev pub space : ℕ
space = 32

abbrev pub newline : ℕ
newline = 10

abbrev pub dash : ℕ
dash = 45

-- a text's bytes
abbrev pub text : String → List ℕ
text string.[] = []
text (string.◌∷◌ c cs) = code c ∷ text cs

-- the bytes start with those of a text
unfoldable pub starts_with : List ℕ → List ℕ → Bool
starts_with w l = slices.starts_with nat_eq l w

-- the next byte is e
unfoldable pub next_is : ℕ → List ℕ → Bool
next_is e [] = false
next_is e (b ∷ l) = eqb b e

-- the byte e has to end a field whose value is a
abbrev pub ended : {A : Type 0} → ℕ → A → List ℕ → Got A
ended e a l = cond (next_is e l) (got a (tail l)) bad

-- "capital hexadecimal": 0 to 9 and A to F. A byte that is no digit has 16, which is below no base.
abbrev pub digit : ℕ → ℕ
digit b = cond (ltb b 48) 16 (cond (ltb b 58) (b - 48) (cond (ltb b 65) 16 (cond (ltb b 71) (b - 55) 16)))

-- so many digits of a base, read onto the number v
unfoldable pub read_digits : ℕ → ℕ → ℕ → List ℕ → Got ℕ
read_digits base zero v l = got v l
read_digits base (suc width) v [] = bad
read_digits base (suc width) v (b ∷ l) = cond (ltb (digit b) base) (read_digits base width (v * base + digit b) l) bad

-- "16 digits f64 and u64, 8 digits f32": a number of a fixed width, and the byte after it
unfoldable pub number_form : ℕ → ℕ → ℕ → List ℕ → Got ℕ
number_form base width e l = then (read_digits base width 0 l) (λ v rest. ended e v rest)

-- "`-` is none, allowed for position and the three limits": it, or a number in hexadecimal
unfoldable pub optional_form : ℕ → ℕ → List ℕ → Got (Option ℕ)
optional_form width e l = cond (next_is dash l) (ended e None (tail l)) (then (number_form 16 width e l) (λ v rest. got (Some v) rest))

-- decimal digits as far as they go, read onto v; "at most 2^32 − 1 (else 9)"
unfoldable pub decimals : ℕ → List ℕ → Got ℕ
decimals v [] = got v []
decimals v (b ∷ l) = cond (ltb (digit b) 10) (cond (ltb (v * 10 + digit b) 0x1_0000_0000) (decimals (v * 10 + digit b) l) bad) (got v (b ∷ l))

-- the next byte's digit
unfoldable pub next_digit : List ℕ → ℕ
next_digit [] = 16
next_digit (b ∷ l) = digit b

-- "Target: decimal without leading zeros": 0 alone, or digits of which the first is no 0; and the space after it
unfoldable pub target_form : List ℕ → Got ℕ
target_form l =
    cond (eqb (next_digit l) 0) (ended space 0 (tail l))
    (cond (ltb (next_digit l) 10) (then (decimals 0 l) (λ v rest. ended space v rest)) bad)
