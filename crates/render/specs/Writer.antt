-- The sample writer's own terms, which its private functions cite: a segment between two points, the ends of all, and a stretch of samples inside a segment.
use Rattle.std.specs.Prelude.{ℕ, ◌+◌, ◌<◌, ◌≤◌, ◌≡◌, Bool, true, cond, ◌&&◌, List, length, get_or, Float, Option, None, Some}
use Rattle.std.specs.Float.{binary64}
use Rattle.std.specs.Float.Ieee.{lt, le, fits}
use Rattle.curve.specs.Curve.{interpolated}
use Rattle.points.specs.declared.AutomationPoint.{AutomationPoint}
use Rattle.limits.specs.Limits.{constrained}
use Rattle.lookup.specs.Lookup.{fraction, raw_at}
use Rattle.limits.specs.declared.Limits.{Limits}
use Rattle.render.specs.Render.{sample_time}
use Rattle.render.specs.declared.Segment.{Segment}
use Rattle.render.specs.declared.Ends.{Ends}

-- the way from one point to the next
abbrev pub segment_of : AutomationPoint → AutomationPoint → Segment
segment_of p q = record { from = p.time; to = q.time; start = p.value; end = q.value; curve = p.curve }

-- its value at a time, before the constraints
abbrev pub raw_of : Segment → Float → Float
raw_of s time = interpolated s.curve s.start s.end (fraction s.from s.to time)

-- and constrained
unfoldable pub segment_at : Limits → Segment → Float → Float
segment_at limits s time = constrained limits (raw_of s time)

-- strictly between its ends
abbrev pub inside : Segment → Float → Bool
inside s time = lt s.from time && lt time s.to

-- a segment that has the points' value at each time inside it, the time being an f64
abbrev pub Serves : List AutomationPoint → Segment → Type 0
Serves l s = (time : Float) → fits binary64 time ≡ true → inside s time ≡ true → raw_at l time ≡ Some (raw_of s time)

-- the first point's time and the last one's, with their values, constrained
abbrev pub ends_of : Limits → AutomationPoint → AutomationPoint → Ends
ends_of limits p q = record { first = p.time; early = constrained limits p.value; last = q.time; late = constrained limits q.value }

-- the value at or before the first time, and at or after the last; between them, and at a NaN, none
abbrev pub outside_at : Ends → Float → Option Float
outside_at e time = cond (le time e.first) (Some e.early) (cond (le e.last time) (Some e.late) None)

-- from a place on, up to another, the samples hold a segment's values, their times inside it; those before are as they were
pub record Written (s : Segment) (limits : Limits) (rate : Float) (first place : ℕ) (old new : List Float) (end : ℕ) : Type 0 where
  pub least : place ≤ end
  pub most : place ≤ length old → end ≤ length old
  pub moves : place < length old → inside s (sample_time rate (first + place)) ≡ true → place < end
  pub before : (k : ℕ) (d : Float) → k < place → get_or new k d ≡ get_or old k d
  pub within : (k : ℕ) (d : Float) → place ≤ k → k < end → k < length old → (inside s (sample_time rate (first + k)) ≡ true) × (get_or new k d ≡ segment_at limits s (sample_time rate (first + k)))
