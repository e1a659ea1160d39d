-- 01's "Proved examples", the part that is the lookups': P1, P2 and P7 to P10. Every point is Linear and has no position; every envelope is enabled.
use Rattle.std.specs.Prelude.{ℕ, ◌≡◌, refl, true, false, List, [], ◌∷◌, Float, None, Option, Some}
use Rattle.std.specs.Float.{binary64}
use Rattle.std.specs.Float.Ieee.{of_bits, to_bits, to_unsigned, round, add, sub, mul, div, lt, le, is_nan}
use Rattle.numbers.specs.Bounds.{finite, min_num}
use Rattle.numbers.specs.Narrow.{narrow}
use Rattle.numbers.specs.Order.{order_key}
use Rattle.curve.specs.F32.{f32, f0, f1}
use Rattle.curve.specs.Curve.{code, controls, finite_controls, interpolated, eased}
use Rattle.curve.specs.declared.CurveType.{CurveType}
use Rattle.curve.specs.declared.CurveType.TheVariants.{Linear}
use Rattle.points.specs.Point.{point_with}
use Rattle.points.specs.Points.{holding, rising_by, valid_points}
use Rattle.points.specs.Refusal.{Said, gives}
use Rattle.points.specs.declared.AutomationPoint.{AutomationPoint}
use Rattle.limits.specs.Limits.{constrained}
use Rattle.lookup.specs.Lookup.{surrounded, fraction, found_at, found_at_sample, get_value_at, get_value_at_sample}
use Rattle.points.specs.Search.{place_by}
use Rattle.limits.specs.declared.Limits.{Limits}
use Rattle.std.specs.Float.{round_with}

-- ---- what the examples are made of, here and in the crates above

-- a time by its bits
abbrev f64 : ℕ → Float
f64 bits = of_bits binary64 bits

-- 0.0, 1.0, 2.0, 4.0, 10.0, 20.0
abbrev pub t0 : Float
t0 = f64 0x0000_0000_0000_0000

abbrev pub t1 : Float
t1 = f64 0x3FF0_0000_0000_0000

abbrev pub t2 : Float
t2 = f64 0x4000_0000_0000_0000

abbrev pub t4 : Float
t4 = f64 0x4010_0000_0000_0000

abbrev pub t10 : Float
t10 = f64 0x4024_0000_0000_0000

abbrev pub t20 : Float
t20 = f64 0x4034_0000_0000_0000

-- -0.0
abbrev pub minus_zero : Float
minus_zero = f32 0x8000_0000

-- a Linear point at a time, with a value
abbrev pub at : Float → Float → AutomationPoint
at t v = point_with t v Linear

-- "(0,0),(4,1)", by a curve
abbrev pub rise : CurveType → List AutomationPoint
rise c = point_with t0 f0 c ∷ point_with t4 f1 c ∷ []

-- a maximum and a step, and no minimum
abbrev pub limits : Option Float → Option Float → Limits
limits max step = record { min_value = None; max_value = max; step_size = step; hard = false }

-- the same limits with hard on
abbrev pub hardened : Limits → Limits
hardened l = record { min_value = l.min_value; max_value = l.max_value; step_size = l.step_size; hard = true }

abbrev pub free : Limits
free = limits None None

-- ---- the lookups of a list of points

abbrev by_time : List AutomationPoint → Limits → Float → Said (Option Float)
by_time l limits time = get_value_at (holding l) true limits time

abbrev by_sample : List AutomationPoint → ℕ → Said (Option Float)
by_sample l sample = get_value_at_sample (holding l) true free sample

-- "P1 empty: silent."
pub p1 : by_time [] free t1 ≡ gives None
unfolding get_value_at valid_points rising_by found_at code of_bits
p1 = refl

-- "P2 (0,0),(4,1) at 1: 0.25."
pub p2 : by_time (rise Linear) free t1 ≡ gives (Some (f32 0x3E80_0000))
unfolding get_value_at valid_points rising_by found_at surrounded place_by fraction constrained finite finite_controls controls code order_key narrow interpolated eased of_bits to_bits round add sub mul div lt le
p2 = refl

-- "P7 maximum 1, step 0.625, value 1: 1.25."
pub p7 : by_time (at t0 f1 ∷ []) (limits (Some f1) (Some (f32 0x3F20_0000))) t0 ≡ gives (Some (f32 0x3FA0_0000))
unfolding get_value_at valid_points rising_by found_at constrained finite finite_controls controls code of_bits min_num round_with round is_nan mul div lt
p7 = refl

-- F-1: "P7's sibling with hard (1.0)"
pub p7_hard : by_time (at t0 f1 ∷ []) (hardened (limits (Some f1) (Some (f32 0x3F20_0000)))) t0 ≡ gives (Some f1)
unfolding get_value_at valid_points rising_by found_at constrained finite finite_controls controls code of_bits min_num round_with round is_nan mul div lt
p7_hard = refl

-- "P8 step 1, value −2.5: −3."
pub p8 : by_time (at t0 (f32 0xC020_0000) ∷ []) (limits None (Some f1)) t0 ≡ gives (Some (f32 0xC040_0000))
unfolding get_value_at valid_points rising_by found_at constrained finite finite_controls controls code of_bits round_with round mul div lt
p8 = refl

-- "P9 alone, −0.0 stays; as the middle of three, at its time, 0.0."
pub p9_alone : by_time (at t1 minus_zero ∷ []) free t1 ≡ gives (Some minus_zero)
unfolding get_value_at valid_points rising_by found_at constrained finite finite_controls controls code of_bits
p9_alone = refl

pub p9_middle : by_time (at t0 f1 ∷ at t1 minus_zero ∷ at t2 f1 ∷ []) free t1 ≡ gives (Some f0)
unfolding get_value_at valid_points rising_by found_at surrounded place_by fraction constrained finite finite_controls controls code order_key narrow interpolated eased of_bits to_bits round add sub mul div lt le
p9_middle = refl

-- "P10 times 10 and 20, no positions: sample 5 silent, sample 0 the first value."
pub p10_silent : by_sample (at t10 f1 ∷ at t20 f0 ∷ []) 5 ≡ gives None
unfolding get_value_at_sample valid_points rising_by found_at_sample surrounded place_by finite finite_controls controls code order_key of_bits to_bits to_unsigned mul round
p10_silent = refl

pub p10_first : by_sample (at t10 f1 ∷ at t20 f0 ∷ []) 0 ≡ gives (Some f1)
unfolding get_value_at_sample valid_points rising_by found_at_sample constrained finite finite_controls controls code order_key of_bits to_bits to_unsigned mul round
p10_first = refl
