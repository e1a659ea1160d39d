-- A list of points in the 256 places, where there are enough: 01, "Kept, and written anew".
use Rattle.std.specs.Prelude.{cond, List, length, leb, Err, Ok, Result}
use Rattle.points.specs.Points.{holding}
use Rattle.points.specs.declared.AutomationPoint.{AutomationPoint}
use Rattle.points.specs.declared.Points.{Points}
use Rattle.points.specs.declared.refusal.Refusal.{Refusal}
use Rattle.points.specs.declared.refusal.Refusal.TheVariants.{TooManyPoints}

-- whether there is a place for each, else 5
abbrev pub room_for : List AutomationPoint → Result (Unit {0}) Refusal
room_for l = cond (leb (length l) 256) (Ok tt) (Err TooManyPoints)

-- the points that hold the list, else 5
abbrev pub fitted : List AutomationPoint → Result Points Refusal
fitted l = cond (leb (length l) 256) (Ok (holding l)) (Err TooManyPoints)
