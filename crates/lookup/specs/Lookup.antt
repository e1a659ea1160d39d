-- 01, "Lookup": by time, and by sample.
use Rattle.std.specs.Prelude.{ℕ, ◌-◌, Bool, true, false, cond, List, [], ◌∷◌, length, get_or, ltb, leb, eqb, pos, Float, Option, None, Some, option_map, unwrap_or}
use Rattle.std.specs.Float.{binary32, binary64}
use Rattle.std.specs.Float.Ieee.{sub, mul, div, lt, le, of_int, to_unsigned, of_bits}
use Rattle.numbers.specs.Bounds.{zero64}
use Rattle.numbers.specs.Narrow.{narrow}
use Rattle.numbers.specs.Order.{order_key}
use Rattle.curve.specs.Curve.{interpolated}
use Rattle.points.specs.Point.{any_point}
use Rattle.points.specs.Points.{list_of, rising_by, time_key}
use Rattle.points.specs.Search.{place_by}
use Rattle.points.specs.Refusal.{Said, refuses, gives}
use Rattle.points.specs.declared.AutomationPoint.{AutomationPoint}
use Rattle.points.specs.declared.Points.{Points}
use Rattle.limits.specs.Limits.{constrained}
use Rattle.lookup.specs.Valid.{valid}
use Rattle.limits.specs.declared.Limits.{Limits}

-- the point at a place
abbrev pub point_at : List AutomationPoint → ℕ → AutomationPoint
point_at l i = get_or l i any_point

-- the last point
abbrev pub last_point : List AutomationPoint → AutomationPoint
last_point l = point_at l (length l - 1)

-- a search for the key k among n points ended at i, p being the point before and q the one at it: "at an inner point's own time .. both ends are that point";
-- before the first and past the last there is none
abbrev pub around : {A : Type 0} → (AutomationPoint → ℕ) → ℕ → (AutomationPoint → AutomationPoint → A) → ℕ → ℕ → AutomationPoint → AutomationPoint → Option A
around key k give n i p q = cond (ltb i n) (cond (eqb (key q) k) (Some (give q q)) (cond (ltb 0 i) (Some (give p q)) None)) None

-- the same at a place of a list
abbrev pub around_at : {A : Type 0} → (AutomationPoint → ℕ) → ℕ → (AutomationPoint → AutomationPoint → A) → List AutomationPoint → ℕ → Option A
around_at key k give l i = around key k give (length l) i (point_at l (i - 1)) (point_at l i)

-- 000's search for the surrounding points, over any key
unfoldable pub surrounded : {A : Type 0} → (AutomationPoint → ℕ) → ℕ → (AutomationPoint → AutomationPoint → A) → List AutomationPoint → Option A
unfolding place_by
surrounded key k give l = let i = place_by key k l in around key k give (length l) i (point_at l (i - 1)) (point_at l i)

-- both lookups, where `end` is what a point gives by itself: "empty is silent; one point gives its value"; of more points the first where `early` holds of it,
-- the last where `late` does, else what is found between
abbrev pub found : {A : Type 0} → (AutomationPoint → A) → (AutomationPoint → Bool) → (AutomationPoint → Bool) → Option A → List AutomationPoint → Option A
found end early late inner [] = None
found end early late inner (p ∷ []) = Some (end p)
found end early late inner (p ∷ (q ∷ l)) =
    let last = last_point (q ∷ l) in
    cond (early p) (Some (end p)) (cond (late last) (Some (end last)) inner)

-- a point's own value
abbrev pub ended : AutomationPoint → Float
ended p = p.value

-- ---- by time

-- "t = (time − previous) / span, computed in f64 and narrowed once"; 000 takes 0 where the span isn't above 0, so "at an inner point's own time t is 0"
unfoldable pub fraction : Float → Float → Float → Float
fraction previous next time =
    let span = sub binary64 next previous in
    cond (lt zero64 span) (narrow (div binary64 (sub binary64 time previous) span)) (of_bits binary32 0)

-- the value on the way from one point to the next
abbrev pub between : Float → AutomationPoint → AutomationPoint → Float
between time p q = interpolated p.curve p.value q.value (fraction p.time q.time time)

-- "at or before the first time the first value; at or after the last the last (both compared as numbers, −0.0 equal to 0.0); a NaN time is silent"
-- `way` is what is found on the way from one point to the next
unfoldable pub found_at : {A : Type 0} → (AutomationPoint → A) → (Float → AutomationPoint → AutomationPoint → A) → List AutomationPoint → Float → Option A
unfolding surrounded
found_at end way l time = found end (λ p. le time p.time) (λ p. le p.time time) (surrounded time_key (order_key time) (way time) l) l

-- the lookup by time before the constraints
abbrev pub raw_at : List AutomationPoint → Float → Option Float
raw_at l time = found_at ended between l time

-- ---- by sample

-- "a point's key is its position, else time times 48000 cut to u64"
abbrev pub sample_key : AutomationPoint → ℕ
sample_key p = unwrap_or p.sample_position (to_unsigned 64 (mul binary64 p.time (of_bits binary64 0x40E7_7000_0000_0000)))

-- "t is the quotient of two differences, each rounded to f32"
unfoldable pub sample_fraction : ℕ → ℕ → ℕ → Float
sample_fraction previous next sample =
    cond (ltb 0 (next - previous))
    (div binary32 (of_int binary32 (pos (sample - previous))) (of_int binary32 (pos (next - previous))))
    (of_bits binary32 0)

-- the value on the way from one point to the next, by sample
abbrev pub between_samples : ℕ → AutomationPoint → AutomationPoint → Float
between_samples sample p q = interpolated p.curve p.value q.value (sample_fraction (sample_key p) (sample_key q) sample)

-- "The start test takes 0 for a first point without a position, the search takes its key; samples between the two are silent."
unfoldable pub found_at_sample : {A : Type 0} → (AutomationPoint → A) → (ℕ → AutomationPoint → AutomationPoint → A) → List AutomationPoint → ℕ → Option A
unfolding surrounded
found_at_sample end way l sample = found end (λ p. leb sample (unwrap_or p.sample_position 0)) (λ p. leb (sample_key p) sample) (surrounded sample_key sample (way sample) l) l

-- the lookup by sample before the constraints
abbrev pub raw_at_sample : List AutomationPoint → ℕ → Option Float
raw_at_sample l sample = found_at_sample ended between_samples l sample

-- ---- the answers

-- "disabled .. is silent", and what is heard is constrained
abbrev pub heard : Bool → Limits → Option Float → Option Float
heard false limits raw = None
heard true limits raw = option_map (constrained limits) raw

-- the lookup by time of a valid envelope
abbrev pub value_at : Points → Bool → Limits → Float → Option Float
value_at points enabled limits time = heard enabled limits (raw_at (list_of points) time)

-- the lookup by time of an envelope, where a search is said to end at a place
abbrev pub value_near : Points → Bool → Limits → Float → ℕ → Option Float
value_near points enabled limits time i =
    let l = list_of points in
    heard enabled limits (found ended (λ p. le time p.time) (λ p. le p.time time) (around_at time_key (order_key time) (between time) l i) l)

-- the lookup by sample of a valid envelope whose keys rise
abbrev pub value_at_sample : Points → Bool → Limits → ℕ → Option Float
value_at_sample points enabled limits sample = heard enabled limits (raw_at_sample (list_of points) sample)

-- `get_value_at`, with refusal 1
unfoldable pub get_value_at : Points → Bool → Limits → Float → Said (Option Float)
get_value_at points enabled limits time = cond (valid points limits) (gives (value_at points enabled limits time)) (refuses 1)

-- 7: "a call by sample; two or more points, enabled, keys don't strictly rise"
abbrev pub keys_rise : Points → Bool → Bool
keys_rise points enabled = cond enabled (rising_by sample_key (list_of points)) true

-- `get_value_at_sample`, with refusals 1 and 7
unfoldable pub get_value_at_sample : Points → Bool → Limits → ℕ → Said (Option Float)
get_value_at_sample points enabled limits sample =
    cond (valid points limits)
    (cond (keys_rise points enabled) (gives (value_at_sample points enabled limits sample)) (refuses 7))
    (refuses 1)
