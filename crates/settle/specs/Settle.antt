-- What every edit of the points is held to: 01, "What the player declines", its order as far as an edit's arguments and its list of points decide it.
use Rattle.std.specs.Prelude.{Bool, true, List, [], ◌∷◌, length, leb, Err, Ok, Result}
use Rattle.points.specs.Checks.{Check, or_else, first_failing, gate}
use Rattle.points.specs.Point.{finite_point}
use Rattle.points.specs.Points.{every, rising, valid_points, holding}
use Rattle.points.specs.declared.AutomationPoint.{AutomationPoint}
use Rattle.points.specs.declared.Points.{Points}
use Rattle.points.specs.declared.refusal.Refusal.{Refusal}
use Rattle.points.specs.declared.refusal.Refusal.TheVariants.{NotValid, NotFinite, BoundsCross, TooManyPoints, TimesDontRise}

-- what an edit asks of its arguments, and the list of points that it makes
pub record Proposal : Type 0 where
  pub finite_arguments : Bool
  pub bounds_in_order : Bool
  pub list : List AutomationPoint

-- an edit that has no bounds: all but clamp_values
abbrev pub plain : Bool → List AutomationPoint → Proposal
plain finite_arguments l = record { finite_arguments = finite_arguments; bounds_in_order = true; list = l }

-- "Order: 1, .., argument 3, 4, .., result 3, 6, 5"; 1 unless all that the edit is given is valid
abbrev pub causes : Bool → Proposal → List Check
causes valid p =
    or_else valid NotValid
    ∷ (or_else p.finite_arguments NotFinite
    ∷ (or_else p.bounds_in_order BoundsCross
    ∷ (or_else (every finite_point p.list) NotFinite
    ∷ (or_else (rising p.list) TimesDontRise
    ∷ (or_else (leb (length p.list) 256) TooManyPoints
    ∷ [])))))

-- the edit's refusal, or the points that hold its list; a refusal changes nothing, since the points were only lent
unfoldable pub judged : Bool → Proposal → Result Points Refusal
unfolding first_failing
judged valid p = gate (causes valid p) Err (Ok (holding p.list))

-- an edit that makes the list l of the points ps
unfoldable pub edit_points : Points → Bool → List AutomationPoint → Result Points Refusal
unfolding judged
edit_points ps finite_arguments l = judged (valid_points ps) (plain finite_arguments l)

-- the same of valid points and finite arguments: the result's refusals alone
unfoldable pub settle : List AutomationPoint → Result Points Refusal
unfolding judged
settle l = judged true (plain true l)
