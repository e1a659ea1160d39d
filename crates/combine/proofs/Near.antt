-- The lookup from the walk's place is the lookup. Assumes nothing.
use Rattle.std.specs.Prelude.{Option, unwrap_or}
use Prim.Native.Nat.{ℕ, ◌-◌, ◌<◌}
use mathlib.Core.Path.{◌≡◌, ap, ◌∙◌}
use mathlib.Core.List.{List}
use native.Mathlib.Omega.{arith}
use lib.Ieee.{Float, le}
use lib.ListN.{length}
use Rattle.numbers.specs.Order.{order_key}
use Rattle.curve.specs.F32.{f0}
use Rattle.points.specs.Points.{list_of, time_key}
use Rattle.points.specs.Search.{place_by}
use Rattle.points.specs.declared.AutomationPoint.{AutomationPoint}
use Rattle.lookup.specs.Heard.{Heard}
use Rattle.lookup.specs.Lookup.{point_at, around, found, found_at, ended, between, heard}
use Rattle.lookup.proofs.LookupLaws.{around_is}
use Rattle.combine.specs.Combine.{side_at}

-- a side's value at a time, 0.0 where silent, from a place: q stands there, and p before it
abbrev pub near_at : Heard → ℕ → AutomationPoint → AutomationPoint → Float → Float
near_at h place p q time =
    let l = list_of h.points in
    let inner = around time_key (order_key time) (between time) (length l) place p q in
    unwrap_or (heard h.enabled h.limits (found ended (λ a. le time a.time) (λ a. le a.time time) inner l)) f0

-- p and q have to be the list's points only where they are read: p past the first place, q where a point stands at it
around_same : {A : Type 0} (key : AutomationPoint → ℕ) (k : ℕ) (give : AutomationPoint → AutomationPoint → A) (l : List AutomationPoint) (i : ℕ) (p q : AutomationPoint)
    → (0 < i → p ≡ point_at l (i - 1)) → (i < length l → q ≡ point_at l i)
    → around key k give (length l) i p q ≡ around key k give (length l) i (point_at l (i - 1)) (point_at l i)
around_same key k give l i p q hp hq = grind (arith, hp, hq)

-- It is the lookup where a search for the time ends at that place: of any side, valid or not. With the list's own points it is `value_near` (lookup), which the walk asks for.
pub near_is : (h : Heard) (time : Float) (i : ℕ) (p q : AutomationPoint) → i ≡ place_by time_key (order_key time) (list_of h.points)
    → (0 < i → p ≡ point_at (list_of h.points) (i - 1)) → (i < length (list_of h.points) → q ≡ point_at (list_of h.points) i)
    → near_at h i p q time ≡ side_at h time
unfolding found_at
near_is h time i p q e hp hq =
    let l = list_of h.points in
    ap (λ (inner : Option Float). unwrap_or (heard h.enabled h.limits (found ended (λ a. le time a.time) (λ a. le a.time time) inner l)) f0)
    (around_same time_key (order_key time) (between time) l i p q hp hq ∙ around_is time_key (order_key time) (between time) l i e)
