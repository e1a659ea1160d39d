-- 01's "Proved examples", the part that is the ranges': P12. And that hard leaves the raw values of points raw.
use Rattle.std.specs.Prelude.{◌≡◌, refl, true, [], ◌∷◌, None, Some}
use Rattle.std.specs.Float.Ieee.{of_bits, lt, le, is_nan}
use Rattle.numbers.specs.Bounds.{finite, min_num, max_num}
use Rattle.curve.specs.F32.{f1, f2}
use Rattle.curve.specs.Curve.{code, controls, finite_controls}
use Rattle.points.specs.Points.{holding, rising_by, valid_points}
use Rattle.points.specs.Refusal.{gives}
use Rattle.limits.specs.Limits.{constrained}
use Rattle.lookup.specs.Lookup.{found_at}
use Rattle.lookup.specs.Examples.{at, limits, hardened, t0, t1}
use Rattle.lookup.specs.Runs.{run}
use Rattle.analysis.specs.Analysis.{given_values, range_of, raw_inside, get_range}

-- "P12 value 2, maximum 1, time 0, range 0 to 1: (1, 2)."
pub p12 : get_range (holding (at t0 f2 ∷ [])) true (limits (Some f1) None) t0 t1 ≡ gives (Some (f1, f2))
unfolding get_range range_of given_values raw_inside run valid_points rising_by found_at constrained finite finite_controls controls code of_bits min_num max_num is_nan lt le
p12 = refl

-- the same with hard on: F-1 is of "every value found by lookup", and the point's own value is raw
pub p12_hard : get_range (holding (at t0 f2 ∷ [])) true (hardened (limits (Some f1) None)) t0 t1 ≡ gives (Some (f1, f2))
unfolding get_range range_of given_values raw_inside run valid_points rising_by found_at constrained finite finite_controls controls code of_bits min_num max_num is_nan lt le
p12_hard = refl
