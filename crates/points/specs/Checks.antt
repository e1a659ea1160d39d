-- 01, "What the player declines", its order: checks in a row, of which the first that fails refuses.
use Rattle.std.specs.Prelude.{Bool, cond, List, [], ◌∷◌, Err, None, Ok, Option, Result, Some}
use Rattle.points.specs.declared.refusal.Refusal.{Refusal}

-- a test, and the refusal that it gives where it fails
pub record Check : Type 0 where
  pub holds : Bool
  pub refusal : Refusal

-- the test b, else r
abbrev pub or_else : Bool → Refusal → Check
or_else b r = record { holds = b; refusal = r }

-- the refusal of the first check that fails
unfoldable pub first_failing : List Check → Option Refusal
first_failing [] = None
first_failing (c ∷ cs) = cond c.holds (first_failing cs) (Some c.refusal)

-- a refusal, or else what a call makes
abbrev pub unless_refused : {A : Type 0} → Option Refusal → (Refusal → A) → A → A
unless_refused None refuse own = own
unless_refused (Some r) refuse own = refuse r

-- what a call makes behind these checks
abbrev pub gate : {A : Type 0} → List Check → (Refusal → A) → A → A
gate cs refuse own = unless_refused (first_failing cs) refuse own

-- what a test that gives nothing else says, as the refusal that it names
abbrev pub refusal_of : Result (Unit {0}) Refusal → Option Refusal
refusal_of (Ok tt) = None
refusal_of (Err r) = Some r
