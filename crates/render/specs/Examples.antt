-- Examples of "Rendering" that 01 gives: its sheet's samples, the table's examples of refusals 8 and 13, and a walk at silence.
use Rattle.std.specs.Prelude.{◌≡◌, refl, true, [], ◌∷◌, Float, None}
use Rattle.std.specs.Float.{binary64}
use Rattle.std.specs.Float.Ieee.{of_bits, to_bits, to_unsigned, of_int, round, add, sub, mul, div, lt, le}
use Rattle.numbers.specs.Bounds.{finite}
use Rattle.numbers.specs.Narrow.{narrow}
use Rattle.numbers.specs.Order.{order_key}
use Rattle.curve.specs.F32.{f32, f0, f1, f0·5}
use Rattle.curve.specs.Curve.{code, controls, finite_controls, interpolated, eased}
use Rattle.curve.specs.declared.CurveType.TheVariants.{Linear}
use Rattle.points.specs.Points.{holding, rising_by, valid_points}
use Rattle.points.specs.Refusal.{gives}
use Rattle.points.specs.declared.Points.{Points}
use Rattle.lookup.specs.Examples.{free, rise, t1}
use Rattle.limits.specs.Limits.{constrained}
use Rattle.lookup.specs.Lookup.{surrounded, fraction, found_at}
use Rattle.points.specs.Search.{place_by}
use Rattle.render.specs.Render.{declined, run_into, render, to_buffer, next_sample}
use Rattle.lookup.specs.Runs.{run}

-- 3.0, a duration
abbrev t3 : Float
t3 = of_bits binary64 0x4008_0000_0000_0000

-- the points of 01's sheet, (0, 0) and (4, 1)
abbrev sheet : Points
sheet = holding (rise Linear)

-- 01's output, written from place 1 of five; the other places stay
pub sheet_played : to_buffer sheet true free t1 t3 1 (f1 ∷ f1 ∷ f1 ∷ f1 ∷ f1 ∷ []) ≡ record { said = gives tt; buffer = f1 ∷ f0 ∷ f32 0x3E80_0000 ∷ f0·5 ∷ f1 ∷ [] }
unfolding to_buffer run_into run valid_points rising_by found_at surrounded place_by fraction constrained finite finite_controls controls code order_key narrow interpolated eased of_bits to_bits to_unsigned of_int round add sub mul div lt le
sheet_played = refl

-- "3 samples at place 2 of 4"
pub eight : render sheet true free t1 0 3 2 (f1 ∷ f1 ∷ f1 ∷ f1 ∷ []) ≡ declined 8 (f1 ∷ f1 ∷ f1 ∷ f1 ∷ [])
unfolding render run_into valid_points rising_by finite finite_controls controls code order_key of_bits to_bits
eight = refl

-- "1e10 seconds at 48,000"
pub thirteen : to_buffer sheet true free (of_bits binary64 0x40E7_7000_0000_0000) (of_bits binary64 0x4202_A05F_2000_0000) 0 [] ≡ declined 13 []
unfolding to_buffer run_into valid_points rising_by finite finite_controls controls code order_key of_bits to_bits to_unsigned mul round
thirteen = refl

-- no points are silent, and the walk over them advances
pub silent_step : next_sample (holding []) true free (record { sample_rate = t1; current_sample = 1; total_samples = 3 })
    ≡ record { said = gives None; walk = record { sample_rate = t1; current_sample = 2; total_samples = 3 } }
unfolding next_sample valid_points rising_by found_at code finite of_bits
silent_step = refl
