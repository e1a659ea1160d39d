-- What the sample writer puts at a sample. Assumes nothing.
use Prim.Native.Nat.{ℕ, suc, ◌-◌, ◌≤◌}
use mathlib.Core.Path.{◌≡◌, refl, ap}
use mathlib.Core.Bool.{Bool, true, false, cond}
use Rattle.std.specs.Prelude.{Option, None, Some, option_map}
use mathlib.Core.List.{List, [], ◌∷◌}
use mathlib.Core.Logic.{◌⊎◌, inl, inr}
use native.Mathlib.Omega.{arith}
use lib.ListN.{length}
use lib.Dec.{T}
use lib.IntN.{pos}
use lib.Ieee.{Float, binary64, fits, of_int, le}
use lib.Ieee.Fits.{div-fits}
use Rattle.points.specs.Points.{list_of}
use Rattle.points.specs.declared.AutomationPoint.{AutomationPoint}
use Rattle.limits.specs.declared.Limits.{Limits}
use Rattle.lookup.specs.Heard.{Heard}
use Rattle.limits.specs.Limits.{constrained}
use Rattle.lookup.specs.Lookup.{point_at, last_point, found_at, raw_at, heard, value_at}
use Rattle.render.specs.Render.{sample_time, sample_or}
use Rattle.render.specs.Writer.{inside, segment_at, Serves, ends_of, outside_at}
use Rattle.render.specs.declared.Ends.{Ends}
use Rattle.render.specs.declared.Segment.{Segment}

holds : (b : Bool) → T b → b ≡ true
holds true t = refl
holds false t = absurd t

-- a sample inside a segment that serves the points of an enabled envelope
pub sample_inside : (silent rate : Float) (h : Heard) (limits : Limits) → limits ≡ h.limits → h.enabled ≡ true → (n : ℕ) (s : Segment)
    → (inside s (sample_time rate n) ≡ true) × Serves (list_of h.points) s → segment_at limits s (sample_time rate n) ≡ sample_or silent h.points h.enabled h.limits rate n
unfolding segment_at
sample_inside silent rate h limits e on n s v =
    let time = sample_time rate n in
    let raw = v.1 time (holds (fits binary64 time) (div-fits binary64 (of_int binary64 (pos n)) rate)) v.0 in
    rw (on, raw, e)

-- of two points or more, a sample at or before the first time or at or after the last is what the ends have
by_ends : (limits : Limits) (b c : Bool) (x y v : Float) (inner : Option Float) → cond b (Some (constrained limits x)) (cond c (Some (constrained limits y)) None) ≡ Some v
    → option_map (constrained limits) (cond b (Some x) (cond c (Some y) inner)) ≡ Some v
by_ends limits true c x y v inner e = e
by_ends limits false true x y v inner e = e
by_ends limits false false x y v inner e = cc

raw_outside : (limits : Limits) (l : List AutomationPoint) → 2 ≤ length l → (time v : Float) → outside_at (ends_of limits (point_at l 0) (last_point l)) time ≡ Some v
    → option_map (constrained limits) (raw_at l time) ≡ Some v
unfolding found_at
raw_outside limits [] h time v e = absurd (omega arith)
raw_outside limits (p ∷ []) h time v e = absurd (omega arith)
raw_outside limits (p ∷ (q ∷ l)) h time v e =
    let s : length (p ∷ (q ∷ l)) - 1 ≡ suc (length (q ∷ l) - 1) = omega arith in
    let f = rw s at e in
    by_ends limits (le time p.time) (le (last_point (q ∷ l)).time time) p.value (last_point (q ∷ l)).value v _ f

pub sample_outside : (silent rate : Float) (h : Heard) → h.enabled ≡ true → (ends : Ends) → 2 ≤ length (list_of h.points)
    → ends ≡ ends_of h.limits (point_at (list_of h.points) 0) (last_point (list_of h.points))
    → (n : ℕ) (v : Float) → outside_at ends (sample_time rate n) ≡ Some v → v ≡ sample_or silent h.points h.enabled h.limits rate n
sample_outside silent rate h on ends two is n v e =
    let heard_is = raw_outside h.limits (list_of h.points) two (sample_time rate n) v (rw is at e) in
    rw (on, heard_is) refl

-- one point is the same at every time, and so is none
raw_same : (l : List AutomationPoint) → length l ≤ 1 → (s t : Float) → raw_at l s ≡ raw_at l t
unfolding found_at
raw_same [] h s t = refl
raw_same (p ∷ []) h s t = refl
raw_same (p ∷ (q ∷ l)) h s t = absurd (omega arith)

pub heard_same : (h : Heard) → (h.enabled ≡ false) ⊎ (length (list_of h.points) ≤ 1) → (s t : Float) → value_at h.points h.enabled h.limits s ≡ value_at h.points h.enabled h.limits t
heard_same h (inl e) s t = rw e
heard_same h (inr n) s t = ap (heard h.enabled h.limits) (raw_same (list_of h.points) n s t)
