-- 01, "Analysis": ranges, slope, peaks and valleys.
use Rattle.std.specs.Prelude.{ℕ, ◌+◌, ◌-◌, ◌*◌, ◌/◌, max, Bool, true, false, cond, ◌&&◌, ltb, leb, pos, Float, None, Option, Some}
use Rattle.std.specs.Prelude.{List, [], ◌∷◌, ◌++◌, map, filter, fold, length, drop}
use Rattle.std.specs.Float.{inf, binary32, binary64}
use Rattle.std.specs.Float.Ieee.{add, sub, mul, div, lt, le, of_int, of_bits}
use Rattle.numbers.specs.Bounds.{finite, max_num, min_num}
use Rattle.numbers.specs.Narrow.{narrow}
use Rattle.curve.specs.F32.{f0}
use Rattle.points.specs.Middles.{middles}
use Rattle.points.specs.Points.{list_of}
use Rattle.points.specs.Refusal.{Said, refuses, gives}
use Rattle.points.specs.declared.AutomationPoint.{AutomationPoint}
use Rattle.points.specs.declared.Points.{Points}
use Rattle.lookup.specs.Valid.{valid}
use Rattle.lookup.specs.Lookup.{value_at, value_at_sample, keys_rise}
use Rattle.lookup.specs.Runs.{run}
use Rattle.limits.specs.declared.Limits.{Limits}

-- ---- ranges

-- the values among lookups that are not silent
unfoldable pub given_values : List (Option Float) → List Float
given_values [] = []
given_values (None ∷ l) = given_values l
given_values (Some v ∷ l) = v ∷ given_values l

-- the least and the greatest, from the infinities: "none if the minimum isn't finite"
unfoldable pub range_of : List Float → Option (Float × Float)
range_of l =
    let low = fold min_num (inf false) l in
    cond (finite low) (Some (low, fold max_num (inf true) l)) None

-- 000's `start_time + step * i`, the step being the span / 100
abbrev pub range_time : Float → Float → ℕ → Float
range_time start end i = add binary64 start (mul binary64 (div binary64 (sub binary64 end start) (of_bits binary64 0x4059_0000_0000_0000)) (of_int binary64 (pos i)))

-- "raw, unconstrained values of points inside"
unfoldable pub raw_inside : Float → Float → List AutomationPoint → List Float
raw_inside start end l = map (λ p. p.value) (filter (λ p. le start p.time && le p.time end) l)

-- "`get_range` takes 101 lookups and adds raw, unconstrained values of points inside", with refusals 1 and 3
unfoldable pub get_range : Points → Bool → Limits → Float → Float → Said (Option (Float × Float))
get_range points enabled limits start end =
    cond (valid points limits)
    (cond (finite start && finite end)
    (gives (range_of (given_values (run (λ i. value_at points enabled limits (range_time start end i)) 0 101) ++ raw_inside start end (list_of points))))
    (refuses 3))
    (refuses 1)

-- "`get_range_samples` steps by the larger of 1 and span/100"
abbrev pub sample_step : ℕ → ℕ → ℕ
sample_step start end = max 1 ((end - start) / 100)

-- how many places it looks at, from the start up to the end
abbrev pub sample_stops : ℕ → ℕ → ℕ
sample_stops start end = (end - start) / sample_step start end + 1

-- with refusals 1, 4, 13 ("a sample range whose next place passes 2^64 − 1") and 7
unfoldable pub get_range_samples : Points → Bool → Limits → ℕ → ℕ → Said (Option (Float × Float))
get_range_samples points enabled limits start end =
    cond (valid points limits)
    (cond (leb start end)
    (cond (ltb (start + sample_stops start end * sample_step start end) 0x1_0000_0000_0000_0000)
    (cond (keys_rise points enabled)
    (gives (range_of (given_values (run (λ k. value_at_sample points enabled limits (start + k * sample_step start end)) 0 (sample_stops start end)))))
    (refuses 7))
    (refuses 13))
    (refuses 4))
    (refuses 1)

-- ---- slope

-- 000's `let delta = 0.001`
abbrev pub delta : Float
delta = of_bits binary64 0x3F50_624D_D2F1_A9FC

-- the quotient of two lookups' difference and 0.002 in f32; none where either is silent
unfoldable pub slope_of : Option Float → Option Float → Option Float
slope_of None after = None
slope_of (Some v) None = None
slope_of (Some v) (Some w) = Some (div binary32 (sub binary32 w v) (narrow (mul binary64 (of_bits binary64 0x4000_0000_0000_0000) delta)))

-- "`get_slope_at` gives 0 under two points, even disabled"; the lookups are 0.001 before and after
unfoldable pub get_slope_at : Points → Bool → Limits → Float → Said (Option Float)
get_slope_at points enabled limits time =
    cond (valid points limits)
    (gives (cond (ltb (length (list_of points)) 2) (Some f0)
    (slope_of (value_at points enabled limits (sub binary64 time delta)) (value_at points enabled limits (add binary64 time delta)))))
    (refuses 1)

-- ---- peaks and valleys

-- "Peaks and valleys compare strictly"
abbrev pub is_peak : AutomationPoint → AutomationPoint → AutomationPoint → Bool
is_peak a b c = lt a.value b.value && lt c.value b.value

-- lower than both
abbrev pub is_valley : AutomationPoint → AutomationPoint → AutomationPoint → Bool
is_valley a b c = lt b.value a.value && lt b.value c.value

-- what a search says, and the two lists it leaves
pub record Filled : Type 0 where
  pub said : Said ℕ
  pub times : List Float
  pub values : List Float

-- "they fill a lent list of times and one of values from the start and leave the places after them"; 1, and 8 where either is too short
unfoldable pub find_middles : (AutomationPoint → AutomationPoint → AutomationPoint → Bool) → Points → Limits → List Float → List Float → Filled
unfolding middles
find_middles q points limits times values =
    let found = middles q (list_of points) in
    let n = length found in
    cond (valid points limits)
    (cond (leb n (length times) && leb n (length values))
    (record { said = gives n; times = map (λ p. p.time) found ++ drop n times; values = map (λ p. p.value) found ++ drop n values })
    (record { said = refuses 8; times = times; values = values }))
    (record { said = refuses 1; times = times; values = values })
