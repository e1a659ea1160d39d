-- The analyses' own terms, which their private functions cite: the least and the greatest value so far, and the test of three points in a row.
use Rattle.std.specs.Prelude.{Bool, true, false, cond, Float, None, Option, Some}
use Rattle.std.specs.Float.{inf}
use Rattle.numbers.specs.Bounds.{finite, max_num, min_num}
use Rattle.points.specs.declared.AutomationPoint.{AutomationPoint}
use Rattle.analysis.specs.Analysis.{is_peak, is_valley}
use Rattle.analysis.specs.declared.Bounds.{Bounds}
use Rattle.analysis.specs.declared.Extreme.{Extreme}
use Rattle.analysis.specs.declared.Extreme.TheVariants.{Peak, Valley}

-- ---- the least and the greatest

-- before any value: the infinities, as `range_of` starts
abbrev pub no_values : Bounds
no_values = record { low = inf false; high = inf true }

-- with one more value
abbrev pub widen : Bounds → Float → Bounds
widen b v = record { low = min_num b.low v; high = max_num b.high v }

-- with one more lookup's, if it isn't silent
abbrev pub add_value : Bounds → Option Float → Bounds
add_value b None = b
add_value b (Some v) = widen b v

-- "none if the minimum isn't finite"
abbrev pub as_range : Bounds → Option (Float × Float)
as_range b = cond (finite b.low) (Some (b.low, b.high)) None

-- ---- peaks and valleys

-- one test or the other
abbrev pub middle_test : Extreme → AutomationPoint → AutomationPoint → AutomationPoint → Bool
middle_test Peak = is_peak
middle_test Valley = is_valley

-- a point's value
abbrev pub value_of : AutomationPoint → Float
value_of p = p.value
