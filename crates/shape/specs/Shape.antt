-- The edits that change which points there are, as 000 has them.
use Rattle.std.specs.Prelude.{Bool, cond, not, ◌&&◌, List, [], ◌∷◌, ◌++◌, filter, map, reverse, eqb, Float, length, drop}
use Rattle.std.specs.Float.{binary32, binary64}
use Rattle.std.specs.Float.Ieee.{sub, div, lt, le, of_bits}
use Rattle.numbers.specs.Bounds.{zero64}
use Rattle.numbers.specs.Narrow.{narrow}
use Rattle.curve.specs.Curve.{interpolated}
use Rattle.points.specs.Middles.{middles}
use Rattle.points.specs.Point.{abs}
use Rattle.points.specs.Points.{time_key}
use Rattle.points.specs.declared.AutomationPoint.{AutomationPoint}
use Rattle.pointwise.specs.declared.Change.TheVariants.{Reflect, Quantize}
use Rattle.pointwise.specs.Each.{changed, last_time}

-- the elements that pass a test
abbrev pub keep_if : {A : Type 0} → (A → Bool) → List A → List A
keep_if = filter

-- trim: "p.time >= start_time && p.time <= end_time"
abbrev pub inside : Float → Float → AutomationPoint → Bool
inside start end p = le start p.time && le p.time end

-- all but the first element that passes a test
unfoldable pub remove_first : {A : Type 0} → (A → Bool) → List A → List A
remove_first q [] = []
remove_first q (x ∷ l) = cond (q x) l (x ∷ remove_first q l)

-- "removes the first point less than 0.001 away, or none"
abbrev pub near : Float → AutomationPoint → Bool
near time p = lt (abs (sub binary64 p.time time)) (of_bits binary64 0x3F50_624D_D2F1_A9FC)

-- reverse: each time becomes the last time less it, and the order turns; a point keeps its curve, value and position
abbrev pub reversed : List AutomationPoint → List AutomationPoint
reversed l = reverse (map (changed (Reflect (last_time l))) l)

-- "Quantizing keeps the first of bit-equal times": a point, and of those after it the ones at another time
unfoldable pub firsts : List AutomationPoint → List AutomationPoint
firsts [] = []
firsts (p ∷ l) = p ∷ keep_if (λ q. not (eqb (time_key p) (time_key q))) (firsts l)

-- quantize_time
abbrev pub quantized : Float → List AutomationPoint → List AutomationPoint
quantized grid l = cond (le grid zero64) l (firsts (map (changed (Quantize grid)) l))

-- simplify: whether a point differs by more than the tolerance from what its neighbours would give there
unfoldable pub differs : Float → AutomationPoint → AutomationPoint → AutomationPoint → Bool
differs tolerance prev curr next =
    let t = narrow (div binary64 (sub binary64 curr.time prev.time) (sub binary64 next.time prev.time)) in
    lt tolerance (abs (sub binary32 curr.value (interpolated prev.curve prev.value next.value t)))

-- simplify: the first point stays, each inner one that differs, and the last; the neighbours are those of the list as it was
abbrev pub simplified : Float → List AutomationPoint → List AutomationPoint
simplified tolerance [] = []
simplified tolerance (p ∷ []) = p ∷ []
simplified tolerance (p ∷ (q ∷ l)) = p ∷ (middles (differs tolerance) (p ∷ (q ∷ l)) ++ drop (length l) (q ∷ l))
