-- 01, "What the player declines": the refusals by their numbers, and an answer in 01's terms.
use Rattle.std.specs.Prelude.{ℕ, Err, Ok, Result}
use Rattle.points.specs.declared.refusal.Refusal.{Refusal}
use Rattle.points.specs.declared.refusal.Refusal.TheVariants.{NotValid, SheetCurve, NotFinite, BoundsCross, TooManyPoints, TimesDontRise, KeysDontRise, NoRoom, SheetForm, NoStep}
use Rattle.points.specs.declared.refusal.Refusal.TheVariants.{MemoryLength, StoredState, TooManySamples, OtherEnvelope}

-- the table's first column; "01's table" takes 14 by F-3, "and each later one" with its request
abbrev pub number : Refusal → ℕ
number NotValid = 1
number SheetCurve = 2
number NotFinite = 3
number BoundsCross = 4
number TooManyPoints = 5
number TimesDontRise = 6
number KeysDontRise = 7
number NoRoom = 8
number SheetForm = 9
number NoStep = 10
number MemoryLength = 11
number StoredState = 12
number TooManySamples = 13
number OtherEnvelope = 14

-- what a call says: a refusal, by its number, or what an accepted call gives
pub data Said (A : Type 0) : Type 0 where
  refuses : ℕ → Said A
  gives : A → Said A

-- an answer in these terms: what an accepted call gives is nothing, `()`, where all that it does is what it left changed
abbrev pub said : {A : Type 0} → Result A Refusal → Said A
said (Ok a) = gives a
said (Err r) = refuses (number r)
