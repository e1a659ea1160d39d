-- Laws of points that are made of a slice, one after another. Assumes nothing.
use Rattle.std.specs.Prelude.{Ok, Result}
use Rattle.std.proofs.lemmas.List.{take_more}
use Prim.Native.Nat.{ℕ, ◌+◌, ◌<◌, ◌≤◌}
use mathlib.Core.Path.{◌≡◌, ap, sym, ◌∙◌}
use mathlib.Core.List.{List, []}
use native.Mathlib.Omega.{arith}
use borrow.Author.Tests.{le-leb}
use lib.ListN.{length, take, get_or}
use lib.Seq.{take_all}
use Rattle.points.specs.Points.{holding, fitting, with_more}
use Rattle.points.specs.Fitted.{fitted}
use Rattle.points.proofs.ValidLaws.{more_fitting, fitting_all}
use Rattle.points.specs.declared.AutomationPoint.{AutomationPoint}
use Rattle.points.specs.declared.Points.{Points}
use Rattle.points.specs.declared.refusal.Refusal.{Refusal}

-- none of them
pub fitting_none : holding (fitting []) ≡ holding []
fitting_none = ap holding (fitting_all [] (omega arith))

-- one more of them
pub taken_more : (l : List AutomationPoint) (i : ℕ) (d : AutomationPoint) → i < length l
    → with_more (holding (fitting (take i l))) (get_or l i d) ≡ holding (fitting (take (i + 1) l))
taken_more l i d h = more_fitting (take i l) (get_or l i d) ∙ ap (λ (x : List AutomationPoint). holding (fitting x)) (sym (take_more l i d h))

-- all of them, where there is a place for each
pub fitted_holds : (l : List AutomationPoint) → length l ≤ 256 → fitted l ≡ Ok (holding l)
fitted_holds l h = rw (le-leb (length l) 256 h)

pub all_taken : (l : List AutomationPoint) (n : ℕ) → length l ≤ n → length l ≤ 256 → ◌≡◌ {A = Result Points Refusal} (Ok (holding (fitting (take n l)))) (fitted l)
all_taken l n h k = rw (take_all n l h, fitting_all l k, fitted_holds l k)

pub ruleset from_slice = (fitting_none, taken_more, all_taken)
