-- For the code's own use: the ordered walk of both lists. `Combine.antt` has what a combination is held to.
use Rattle.std.specs.Prelude.{ℕ, cond, List, [], ◌∷◌, ltb, eqb, Float, None, Option, Some}
use Rattle.points.specs.Points.{time_key}
use Rattle.points.specs.declared.AutomationPoint.{AutomationPoint}

-- the first time of either list
unfoldable pub next_time : List AutomationPoint → List AutomationPoint → Option Float
next_time [] [] = None
next_time [] (q ∷ m) = Some q.time
next_time (p ∷ l) [] = Some p.time
next_time (p ∷ l) (q ∷ m) = Some (cond (ltb (time_key q) (time_key p)) q.time p.time)

-- the points after the first one, if that has this key
unfoldable pub past : ℕ → List AutomationPoint → List AutomationPoint
past k [] = []
past k (p ∷ l) = cond (eqb (time_key p) k) l (p ∷ l)
