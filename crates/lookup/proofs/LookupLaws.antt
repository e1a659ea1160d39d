-- The ways out of the lookups, each as a law. Assumes nothing.
use Rattle.std.specs.Prelude.{Option}
use Prim.Native.Nat.{ℕ, suc, ◌-◌, ◌≤◌}
use mathlib.Core.Path.{◌≡◌}
use mathlib.Core.Bool.{Bool, false}
use mathlib.Core.List.{List, [], ◌∷◌}
use native.Mathlib.Omega.{arith}
use lib.ListN.{length}
use Rattle.points.specs.declared.AutomationPoint.{AutomationPoint}
use Rattle.lookup.specs.Lookup.{point_at, last_point, around, surrounded, found}
use Rattle.points.specs.Search.{place_by}

-- of two or more points neither the first nor the last: what is found between
pub found_between : {A : Type 0} (end : AutomationPoint → A) (early late : AutomationPoint → Bool) (inner : Option A) (l : List AutomationPoint)
    → 2 ≤ length l → early (point_at l 0) ≡ false → late (point_at l (length l - 1)) ≡ false → found end early late inner l ≡ inner
found_between end early late inner [] h a b = absurd (omega arith)
found_between end early late inner (p ∷ []) h a b = absurd (omega arith)
found_between end early late inner (p ∷ (q ∷ l)) h a b =
    let e : length (p ∷ (q ∷ l)) - 1 ≡ suc (length (q ∷ l) - 1) = omega arith in
    let b' : late (last_point (q ∷ l)) ≡ false = rw e at b in
    rw (a, b')

-- around the place where a search for the key ends
pub around_is : {A : Type 0} (key : AutomationPoint → ℕ) (k : ℕ) (give : AutomationPoint → AutomationPoint → A) (l : List AutomationPoint) (i : ℕ)
    → i ≡ place_by key k l → around key k give (length l) i (point_at l (i - 1)) (point_at l i) ≡ surrounded key k give l
unfolding surrounded
around_is key k give l i e = rw e
