-- 01, "Edits": "`combine`'s six uses (blend, add, multiply, min, max, subtract)", as 000 has them.
use Rattle.std.specs.Prelude.{Bool, true, cond, ◌&&◌, List, [], ◌∷◌, map, ltb, eqb, Float, Result, unwrap_or}
use Rattle.numbers.specs.Order.{order_key}
use Rattle.numbers.specs.Bounds.{finite, max_num, min_num}
use Rattle.curve.specs.F32.{◌+ᶠ◌, ◌-ᶠ◌, ◌*ᶠ◌, f0, f1}
use Rattle.curve.specs.Curve.{clamped}
use Rattle.curve.specs.declared.CurveType.TheVariants.{Linear}
use Rattle.points.specs.Points.{list_of}
use Rattle.points.specs.declared.AutomationPoint.{AutomationPoint}
use Rattle.settle.specs.Settle.{plain, judged}
use Rattle.points.specs.Point.{time_of, point_with}
use Rattle.points.specs.declared.Points.{Points}
use Rattle.points.specs.declared.refusal.Refusal.{Refusal}
use Rattle.lookup.specs.Heard.{Heard}
use Rattle.lookup.specs.Valid.{valid}
use Rattle.lookup.specs.Lookup.{value_at}
use Rattle.combine.specs.declared.Operation.{Operation}
use Rattle.combine.specs.declared.Operation.TheVariants.{Blend, Add, Multiply, Min, Max, Subtract}

-- ---- "closures in `combine`: a named operation"

-- 3: "an argument .. not finite"; blend's factor is the only number that an operation has
abbrev pub finite_operation : Operation → Bool
finite_operation (Blend factor) = finite factor
finite_operation Add = true
finite_operation Multiply = true
finite_operation Min = true
finite_operation Max = true
finite_operation Subtract = true

-- "All follow 000, operation by operation": 000's blend clamps its factor to 0..1 first
abbrev pub applied : Operation → Float → Float → Float
applied (Blend factor) a b = a *ᶠ (f1 -ᶠ clamped factor) +ᶠ b *ᶠ clamped factor
applied Add a b = a +ᶠ b
applied Multiply a b = a *ᶠ b
applied Min a b = min_num a b
applied Max a b = max_num a b
applied Subtract a b = a -ᶠ b

-- ---- "`BTreeSet`: an ordered walk of both lists"

-- a time against those of the other list; `rest` goes on with the times after it
unfoldable pub merge_from : Float → (List Float → List Float) → List Float → List Float
merge_from a rest [] = a ∷ rest []
merge_from a rest (b ∷ bs) =
    cond (ltb (order_key a) (order_key b)) (a ∷ rest (b ∷ bs))
    (cond (eqb (order_key a) (order_key b)) (a ∷ rest bs) (b ∷ merge_from a rest bs))

-- the times of two lists in totalOrder, a time that both have once
unfoldable pub merge_times : List Float → List Float → List Float
unfolding merge_from
merge_times [] bs = bs
merge_times (a ∷ rest) bs = merge_from a (merge_times rest) bs

-- ---- the combination of two sides, by what is heard of each

-- the times of a side
abbrev pub times_of : Heard → List Float
times_of s = map time_of (list_of s.points)

-- whether a side is a valid envelope's
abbrev pub valid_side : Heard → Bool
valid_side s = valid s.points s.limits

-- 000's `get_value_at(time).unwrap_or(0.0)`
abbrev pub side_at : Heard → Float → Float
side_at s time = unwrap_or (value_at s.points s.enabled s.limits time) f0

-- "all Linear, no positions"
abbrev pub combined_point : Operation → Heard → Heard → Float → AutomationPoint
combined_point op a b time = point_with time (applied op (side_at a time) (side_at b time)) Linear

-- a point for each time of either side
abbrev pub combined_list : Operation → Heard → Heard → List AutomationPoint
combined_list op a b = map (combined_point op a b) (merge_times (times_of a) (times_of b))

-- an edit of the first side's points that makes this list, given both sides
unfoldable pub combined_points : Operation → Heard → Heard → Result Points Refusal
unfolding judged
combined_points op a b = judged (valid_side a && valid_side b) (plain (finite_operation op) (combined_list op a b))
