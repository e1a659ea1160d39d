-- For the code's own use: what its insertion stands on, and where a point goes. `Insert.antt` has what an edit is held to.
use Rattle.std.specs.Prelude.{ℕ, ◌≡◌, ◌<◌, ◌≤◌, true, List, length, slice_set, insert, Result, MatchResult}
use Rattle.points.specs.Points.{rising, list_of, holding}
use Rattle.points.specs.declared.AutomationPoint.{AutomationPoint}
use Rattle.points.specs.declared.Points.{Points}
use Rattle.insert.specs.Insert.{insert_point}

-- points that rise, in their places
pub record Sorted (ps : Points) : Type 0 where
  pub few : ps.count ≤ 256
  pub holds : holding (list_of ps) ≡ ps
  pub rises : rising (list_of ps) ≡ true

-- p goes to this place: `Ok` where it replaces the point there, `Err` where that and all after it make way
abbrev pub GoesTo : AutomationPoint → List AutomationPoint → Result ℕ ℕ → Type 0
GoesTo p l r = MatchResult r (λ i. (i < length l) × (insert_point p l ≡ slice_set l i p)) (λ i. (i ≤ length l) × (insert_point p l ≡ insert l i p))
