-- The edits that change each point by itself, as 000 has them, operation by operation.
use Rattle.std.specs.Prelude.{true, false, cond, not, ◌&&◌, List, [], ◌∷◌, map, fold, Result, Float}
use Rattle.std.specs.Float.{inf, binary32, binary64}
use Rattle.std.specs.Float.Ieee.{add, sub, mul, div, lt, le, of_bits}
use Rattle.numbers.specs.Narrow.{narrow}
use Rattle.numbers.specs.Whole.{nearest_multiple}
use Rattle.numbers.specs.Bounds.{max_num, min_num, clamped_to, zero64, finite}
use Rattle.curve.specs.Curve.{interpolated}
use Rattle.curve.specs.F32.{f0, f1}
use Rattle.curve.specs.declared.CurveType.{CurveType}
use Rattle.points.specs.Points.{list_of, valid_points}
use Rattle.points.specs.declared.AutomationPoint.{AutomationPoint}
use Rattle.points.specs.declared.Points.{Points}
use Rattle.points.specs.declared.refusal.Refusal.{Refusal}
use Rattle.settle.specs.Settle.{Proposal, judged}
use Rattle.pointwise.specs.declared.Change.{Change}
use Rattle.pointwise.specs.declared.Change.TheVariants.{Shift, ScaleTime, Reflect, Quantize, Invert, Normalize, Scale, Offset, Clamp, FadeIn, FadeOut, Gate, Compress}

-- 1.0, an f64
abbrev pub one64 : Float
one64 = of_bits binary64 0x3FF0_0000_0000_0000

-- the point at another time
abbrev pub with_time : AutomationPoint → Float → AutomationPoint
with_time p t = record p { time = t }

-- the point with another value
abbrev pub with_value : AutomationPoint → Float → AutomationPoint
with_value p v = record p { value = v }

-- the fraction of a fade at a time: clamped in f64, then narrowed
unfoldable pub fade_fraction : Float → Float → Float → Float
fade_fraction start duration time = narrow (clamped_to zero64 one64 (div binary64 (sub binary64 time start) duration))

-- apply_fade_in: points up to start + duration are multiplied by the curve from 0 to 1
unfoldable pub faded_in : Float → Float → CurveType → AutomationPoint → Float
faded_in start duration c p =
    cond (le p.time (add binary64 start duration))
    (mul binary32 p.value (interpolated c f0 f1 (fade_fraction start duration p.time)))
    p.value

-- apply_fade_out: points from start on are multiplied by the curve from 1 to 0
unfoldable pub faded_out : Float → Float → CurveType → AutomationPoint → Float
faded_out start duration c p =
    cond (le start p.time)
    (mul binary32 p.value (interpolated c f1 f0 (fade_fraction start duration p.time)))
    p.value

-- apply_gate: "if point.value < threshold"
unfoldable pub gated : Float → Float → Float
gated threshold v = cond (lt v threshold) f0 v

-- apply_compression: "if point.value > threshold"
unfoldable pub compressed : Float → Float → Float → Float
compressed threshold ratio v = cond (lt threshold v) (add binary32 threshold (div binary32 (sub binary32 v threshold) ratio)) v

-- what a change makes of a point, a line of 000 each
abbrev pub changed : Change → AutomationPoint → AutomationPoint
changed (Shift offset) p = with_time p (add binary64 p.time offset)
changed (ScaleTime factor) p = with_time p (mul binary64 p.time factor)
changed (Reflect max_time) p = with_time p (sub binary64 max_time p.time)
changed (Quantize grid) p = with_time p (nearest_multiple binary64 grid p.time)
changed (Invert min max) p = with_value p (sub binary32 max (sub binary32 p.value min))
changed (Normalize low range new_min new_range) p = with_value p (add binary32 new_min (mul binary32 (div binary32 (sub binary32 p.value low) range) new_range))
changed (Scale factor) p = with_value p (mul binary32 p.value factor)
changed (Offset amount) p = with_value p (add binary32 p.value amount)
changed (Clamp min max) p = with_value p (clamped_to min max p.value)
changed (FadeIn start duration c) p = with_value p (faded_in start duration c p)
changed (FadeOut start duration c) p = with_value p (faded_out start duration c p)
changed (Gate threshold) p = with_value p (gated threshold p.value)
changed (Compress threshold ratio) p = with_value p (compressed threshold ratio p.value)

-- normalize: the least and the greatest value, from the infinities
abbrev pub lowest_value : List AutomationPoint → Float
lowest_value l = fold (λ v p. min_num v p.value) (inf false) l

-- the greatest
abbrev pub highest_value : List AutomationPoint → Float
highest_value l = fold (λ v p. max_num v p.value) (inf true) l

-- "Where 000 returns early (grid, factor or duration at most 0) the edit is accepted and changes nothing"
abbrev pub scaled_time : Float → List AutomationPoint → List AutomationPoint
scaled_time factor l = cond (lt zero64 factor) (map (changed (ScaleTime factor)) l) l

-- normalize: where the values differ they are spread over the new range
abbrev pub normalized : Float → Float → List AutomationPoint → List AutomationPoint
normalized new_min new_max l =
    let low = lowest_value l in
    let range = sub binary32 (highest_value l) low in
    cond (lt f0 range) (map (changed (Normalize low range new_min (sub binary32 new_max new_min))) l) l

-- the first time and the last: the fades and `reverse` take them where there is a point
abbrev pub first_time : List AutomationPoint → Float
first_time [] = zero64
first_time (p ∷ l) = p.time

-- the last time
abbrev pub last_time : List AutomationPoint → Float
last_time [] = zero64
last_time (p ∷ []) = p.time
last_time (p ∷ (q ∷ l)) = last_time (q ∷ l)

-- apply_fade_in, from the first time on
abbrev pub faded_in_all : Float → CurveType → List AutomationPoint → List AutomationPoint
faded_in_all duration c l = cond (le duration zero64) l (map (changed (FadeIn (first_time l) duration c)) l)

-- apply_fade_out, up to the last time
abbrev pub faded_out_all : Float → CurveType → List AutomationPoint → List AutomationPoint
faded_out_all duration c l = cond (le duration zero64) l (map (changed (FadeOut (sub binary64 (last_time l) duration) duration c)) l)

-- clamp_values, the one edit that has bounds: 4 where the first is above the second
abbrev pub clamping : Float → Float → List AutomationPoint → Proposal
clamping min max l = record { finite_arguments = finite min && finite max; bounds_in_order = not (lt max min); list = map (changed (Clamp min max)) l }

-- of the points
unfoldable pub clamped_edit : Points → Float → Float → Result Points Refusal
unfolding judged
clamped_edit ps min max = judged (valid_points ps) (clamping min max (list_of ps))
