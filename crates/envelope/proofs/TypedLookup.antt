-- Every value that a lookup by time gives is an `f32`, where the points and the limits are in range of their types. Assumes nothing.
use Rattle.std.specs.Prelude.{Option}
use Prim.Native.Nat.{ℕ, zero, suc}
use mathlib.Core.Path.{◌≡◌, refl}
use mathlib.Core.Bool.{Bool, true}
use mathlib.Core.List.{List, [], ◌∷◌}
use native.Mathlib.Omega.{arith}
use lib.Ieee.{Float, binary32, fits}
use Rattle.numbers.specs.Order.{order_key}
use Rattle.numbers.specs.Bounds.{max_num, min_num}
use Rattle.curve.specs.Curve.{interpolated}
use Rattle.points.specs.Points.{time_key, list_of}
use Rattle.points.specs.declared.AutomationPoint.{AutomationPoint}
use Rattle.points.specs.declared.Points.{Points}
use Rattle.limits.specs.Limits.{constrained}
use Rattle.lookup.specs.Lookup.{point_at, surrounded, between, raw_at, found_at, value_at}
use Rattle.limits.specs.declared.Limits.{Limits}
use Rattle.envelope.specs.Typed.{typed_limit}
use Rattle.envelope.proofs.TypedLists.{TypedList, rounded}

pub max_num-fits : (a b : Float) → fits binary32 a ≡ true → fits binary32 b ≡ true → fits binary32 (max_num a b) ≡ true
unfolding max_num
max_num-fits a b h k = grind arith

pub min_num-fits : (a b : Float) → fits binary32 a ≡ true → fits binary32 b ≡ true → fits binary32 (min_num a b) ≡ true
unfolding min_num
min_num-fits a b h k = grind arith

constrained_fits : (limits : Limits) (v : Float) → typed_limit limits.min_value ≡ true → typed_limit limits.max_value ≡ true → fits binary32 v ≡ true → fits binary32 (constrained limits v) ≡ true
unfolding constrained
constrained_fits limits v h k f = grind (arith, rounded, max_num-fits, min_num-fits)

value_fits : (l : List AutomationPoint) (i : ℕ) → TypedList l → fits binary32 (point_at l i).value ≡ true
unfolding fits
value_fits [] i h = refl
value_fits (p ∷ l) zero h = grind arith
value_fits (p ∷ l) (suc i) h = grind (arith, value_fits l i)

between_fits : (time : Float) (p q : AutomationPoint) → fits binary32 (between time p q) ≡ true
unfolding interpolated
between_fits time p q = grind (arith, rounded)

surrounded_fits : (key : AutomationPoint → ℕ) (k : ℕ) (give : AutomationPoint → AutomationPoint → Float) → ((p q : AutomationPoint) → fits binary32 (give p q) ≡ true)
    → (l : List AutomationPoint) → typed_limit (surrounded key k give l) ≡ true
unfolding surrounded
surrounded_fits key k give g l = grind (arith, g)

raw_at-fits : (l : List AutomationPoint) (time : Float) → TypedList l → typed_limit (raw_at l time) ≡ true
unfolding found_at
raw_at-fits [] time h = refl
raw_at-fits (p ∷ []) time h = grind arith
raw_at-fits (p ∷ (q ∷ l)) time h = let k = surrounded_fits time_key (order_key time) (between time) (between_fits time) (p ∷ (q ∷ l)) in grind (arith, value_fits)

pub value_at_fits : (limits : Limits) → typed_limit limits.min_value ≡ true → typed_limit limits.max_value ≡ true
    → (ps : Points) (enabled : Bool) (time : Float) → TypedList (list_of ps) → typed_limit (value_at ps enabled limits time) ≡ true
value_at_fits limits least greatest ps enabled time h = let raw = raw_at-fits (list_of ps) time h in grind (arith, constrained_fits)
