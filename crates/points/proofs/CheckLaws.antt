-- Laws of answers, and of checks in a row, by the first of them each time. Assumes nothing.
use Rattle.std.proofs.lemmas.Option.{none-some, same_Some}
use Rattle.std.specs.Prelude.{None, Option, Some}
use Prim.Native.Nat.{ℕ, ◌<◌}
use mathlib.Core.Path.{◌≡◌, refl, ap, sym, ◌∙◌}
use mathlib.Core.Bool.{Bool, true, false, cond, ◌&&◌}
use mathlib.Core.List.{List, [], ◌∷◌, ◌++◌}
use native.Mathlib.Omega.{arith}
use Rattle.numbers.proofs.Tests.{and_left, and_right}
use Rattle.points.specs.Checks.{Check, or_else, first_failing, unless_refused}
use Rattle.points.specs.Points.{every}
use Rattle.points.specs.Refusal.{refuses, gives, number}
use Rattle.points.specs.declared.refusal.Refusal.{Refusal}
use Rattle.points.specs.declared.refusal.Refusal.TheVariants.{NotValid, SheetCurve, NotFinite, BoundsCross, TooManyPoints, TimesDontRise, KeysDontRise, NoRoom, SheetForm, NoStep}
use Rattle.points.specs.declared.refusal.Refusal.TheVariants.{MemoryLength, StoredState, TooManySamples, OtherEnvelope}

-- ---- an answer is a refusal or not

pub never : {A C : Type 0} {n : ℕ} {a : A} → refuses n ≡ gives a → C
never e = let z : ◌≡◌ {A = ℕ} 0 1 = cc in absurd (omega arith)

-- ---- the first check

module _ (b : Bool) (r : Refusal) (cs : List Check) where
  -- it holds: the others decide
  pub first_holds : b ≡ true → first_failing (or_else b r ∷ cs) ≡ first_failing cs
  unfolding first_failing
  first_holds h = rw h

  -- it fails, whatever the others are
  pub first_fails : b ≡ false → first_failing (or_else b r ∷ cs) ≡ Some r
  unfolding first_failing
  first_fails h = rw h

-- ---- all of them

-- where none fails, all hold
pub all_hold : (cs : List Check) → first_failing cs ≡ None → every (λ c. c.holds) cs ≡ true
unfolding first_failing
all_hold [] h = refl
all_hold (c ∷ cs) h = go c.holds (every (λ c. c.holds) cs) (λ k. all_hold cs k) h
  where
    go : (b r : Bool) → (first_failing cs ≡ None → r ≡ true) → cond b (first_failing cs) (Some c.refusal) ≡ None → (b && r) ≡ true
    go true r rest k = rest k
    go false r rest k = absurd (none-some c.refusal (sym k))

-- checks that all hold are passed over
pub passed_over : (cs ds : List Check) → first_failing cs ≡ None → first_failing (cs ++ ds) ≡ first_failing ds
unfolding first_failing
passed_over [] ds h = refl
passed_over (c ∷ cs) ds h = go c.holds (first_failing (cs ++ ds)) (λ k. passed_over cs ds k) h
  where
    go : (b : Bool) (o : Option Refusal) → (first_failing cs ≡ None → o ≡ first_failing ds) → cond b (first_failing cs) (Some c.refusal) ≡ None
        → cond b o (Some c.refusal) ≡ first_failing ds
    go true o rest k = rest k
    go false o rest k = absurd (none-some c.refusal (sym k))

-- the first that fails decides, whatever comes after
pub stopped_at : (cs ds : List Check) (r : Refusal) → first_failing cs ≡ Some r → first_failing (cs ++ ds) ≡ Some r
unfolding first_failing
stopped_at [] ds r h = absurd (none-some r h)
stopped_at (c ∷ cs) ds r h = go c.holds (first_failing (cs ++ ds)) (λ k. stopped_at cs ds r k) h
  where
    go : (b : Bool) (o : Option Refusal) → (first_failing cs ≡ Some r → o ≡ Some r) → cond b (first_failing cs) (Some c.refusal) ≡ Some r
        → cond b o (Some c.refusal) ≡ Some r
    go true o rest k = rest k
    go false o rest k = k

-- what all refusals of the checks are, the one that is given is
pub refused_among : (is : Refusal → Bool) (cs : List Check) (r : Refusal) → every (λ c. is c.refusal) cs ≡ true → first_failing cs ≡ Some r → is r ≡ true
unfolding first_failing
refused_among is [] r a h = absurd (none-some r h)
refused_among is (c ∷ cs) r a h =
    go c.holds (and_left (is c.refusal) (every (λ c. is c.refusal) cs) a)
    (λ k. refused_among is cs r (and_right (is c.refusal) (every (λ c. is c.refusal) cs) a) k) h
  where
    go : (b : Bool) → is c.refusal ≡ true → (first_failing cs ≡ Some r → is r ≡ true) → cond b (first_failing cs) (Some c.refusal) ≡ Some r → is r ≡ true
    go true p rest k = rest k
    go false p rest k = ap is (sym (same_Some c.refusal r k)) ∙ p

-- ---- behind them

-- what holds of every refusal and of the call's own holds of what comes of it
pub gate_either : {A : Type 0} (P : A → Type 0) (o : Option Refusal) (refuse : Refusal → A) (own : A) → ((r : Refusal) → P (refuse r)) → (o ≡ None → P own)
    → P (unless_refused o refuse own)
gate_either P None refuse own r p = p refl
gate_either P (Some x) refuse own r p = r x

-- a refusal's number isn't 0, so 0 can stand for none
pub number_above : (r : Refusal) → 0 < number r
number_above NotValid = omega arith
number_above SheetCurve = omega arith
number_above NotFinite = omega arith
number_above BoundsCross = omega arith
number_above TooManyPoints = omega arith
number_above TimesDontRise = omega arith
number_above KeysDontRise = omega arith
number_above NoRoom = omega arith
number_above SheetForm = omega arith
number_above NoStep = omega arith
number_above MemoryLength = omega arith
number_above StoredState = omega arith
number_above TooManySamples = omega arith
number_above OtherEnvelope = omega arith
