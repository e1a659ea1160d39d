-- What the code's answers say, in the terms of the definitions.
use Rattle.std.specs.Prelude.{ℕ, ◌+◌, ◌<◌, ◌≡◌, Bool, cond, List, leb, length, None, Option, Some}
use Rattle.std.specs.Borrow.{Bor}
use Rattle.std.proofs.lemmas.List.Edits.{sets}
use Rattle.fields.specs.Form.{Got, bad, got}

-- ---- the reader

-- what stands in front, or that it breaks the form, as a function says it: the value, and a reference to the bytes after it
abbrev pub told : {A : Type 0} → Option (A × Bor (List ℕ)) → Got A
told None = bad
told (Some p) = got p.0 p.1.now

-- an optional number is below n
abbrev pub Below : ℕ → Option ℕ → Type 0
Below n None = Unit
Below n (Some v) = v < n

-- ---- the writer

-- a text put at a place of the bytes l: the place after it, and the bytes then
pub record Put (l : List ℕ) (at : ℕ) (w : List ℕ) (m : List ℕ) (after : ℕ) : Type 0 where
  pub next : after ≡ at + length w
  pub bytes : m ≡ sets l at w

-- the text fits from the place on
abbrev pub has_room : List ℕ → ℕ → List ℕ → Bool
has_room l at w = leb (at + length w) (length l)

-- a text put at a place if it fits there, else nothing
pub record Fitted (l : List ℕ) (at : ℕ) (w : List ℕ) (m : List ℕ) (after : ℕ) : Type 0 where
  pub next : after ≡ cond (has_room l at w) (at + length w) at
  pub bytes : m ≡ cond (has_room l at w) (sets l at w) l
