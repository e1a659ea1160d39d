-- The way from one point to the next has the points' value at each time strictly between them. Assumes nothing.
use Prim.Native.Nat.{ℕ, ◌-◌, ◌≤◌, ◌<◌}
use mathlib.Core.Path.{◌≡◌, sym, ap, ◌∙◌}
use mathlib.Core.Bool.{true, false, not}
use mathlib.Core.List.{List}
use mathlib.Core.Logic.{⊎_elim}
use native.Mathlib.Nat.{eq-or-lt_of_le}
use native.Mathlib.Omega.{arith}
use lib.ListN.{length}
use lib.Ieee.{Float, binary64, lt, le, fits, is_nan}
use borrow.Author.Tests.{lt-ltb, ne_eqb}
use Rattle.numbers.proofs.Tests.{yes, and_left, and_right}
use Rattle.numbers.specs.Bounds.{finite}
use Rattle.numbers.specs.Order.{order_key}
use Rattle.numbers.proofs.Compare.{lt_left, lt_right, finite_number, le_not, lt_key, lt_around}
use Rattle.curve.specs.Curve.{finite_controls}
use Rattle.points.specs.Point.{any_point, finite_point}
use Rattle.points.specs.Points.{every, rising, time_key}
use Rattle.points.specs.declared.AutomationPoint.{AutomationPoint}
use Rattle.points.proofs.Laws.{every_at}
use Rattle.points.proofs.SearchLaws.{keys-rise, place_is}
use Rattle.lookup.specs.Lookup.{point_at, ended, between, found_at, surrounded}
use Rattle.lookup.proofs.LookupLaws.{found_between, around_is}
use Rattle.lookup.specs.Heard.{Heard}
use Rattle.lookup.specs.Valid.{valid}
use Rattle.lookup.proofs.ValidLaws.{points_valid, times_rise}
use Rattle.points.proofs.ValidLaws.{valid_finite}
use Rattle.points.specs.Points.{list_of}
use Rattle.render.specs.Writer.{segment_of, Serves}

module _ (l : List AutomationPoint) (v : every finite_point l ≡ true) (r : rising l ≡ true) where
  -- the time of the point at a place, and its key
  abbrev at : ℕ → Float
  at j = (point_at l j).time

  number_at : (j : ℕ) → j < length l → is_nan (at j) ≡ false
  number_at j h =
      let p = point_at l j in
      finite_number p.time (and_left (finite p.time) (finite p.value) (and_left _ (finite_controls p.curve) (every_at finite_point l j any_point v h)))

  -- an earlier time has a lower key, or is the same
  key_le : (i j : ℕ) → i ≤ j → j < length l → order_key (at i) ≤ order_key (at j)
  key_le i j h k =
      ⊎_elim
      (λ (e : i ≡ j). let s : order_key (at i) ≡ order_key (at j) = ap (λ (m : ℕ). order_key (at m)) e in omega arith)
      (λ (s : i < j). let t = keys-rise time_key any_point l r i j s k in omega arith)
      (eq-or-lt_of_le h)

  pub serves : (i : ℕ) → 0 < i → i < length l → fits binary64 (at 0) ≡ true → fits binary64 (at (i - 1)) ≡ true → fits binary64 (at i) ≡ true → fits binary64 (at (length l - 1)) ≡ true
      → Serves l (segment_of (point_at l (i - 1)) (point_at l i))
  unfolding found_at surrounded
  serves i p q f₀ f₁ f₂ f₃ time g h =
      let n = length l - 1 in
      let a = and_left (lt (at (i - 1)) time) (lt time (at i)) h in
      let b = and_right (lt (at (i - 1)) time) (lt time (at i)) h in
      let j = lt_key (at (i - 1)) time (yes f₁) (yes g) a in
      let k = lt_key time (at i) (yes g) (yes f₂) b in
      let o : order_key time ≤ order_key time = omega arith in
      let a₀ = lt_around (at 0) (at (i - 1)) time time (yes f₀) (yes f₁) (yes g) (yes g) (number_at 0 (omega arith)) (lt_right (at (i - 1)) time a) (key_le 0 (i - 1) (omega arith) (omega arith)) a o in
      let b₁ = lt_around time time (at i) (at n) (yes g) (yes g) (yes f₂) (yes f₃) (lt_left time (at i) b) (number_at n (omega arith)) o b (key_le i n (omega arith) (omega arith)) in
      let early = le_not (at 0) time (number_at 0 (omega arith)) (lt_right (at (i - 1)) time a) ∙ ap not a₀ in
      let late = le_not time (at n) (lt_left time (at i) b) (number_at n (omega arith)) ∙ ap not b₁ in
      let here = place_is time_key any_point (order_key time) l i (omega arith) (λ m s. let t = key_le m (i - 1) (omega arith) (omega arith) in omega arith) (λ s. omega arith) in
      found_between ended (λ p. le time p.time) (λ p. le p.time time) (surrounded time_key (order_key time) (between time) l) l (omega arith) early late
      ∙ sym (around_is time_key (order_key time) (between time) l i (sym here))
      ∙ rw (lt-ltb i (length l) q, ne_eqb (time_key (point_at l i)) (order_key time) (λ e. omega arith), lt-ltb 0 i p)

-- the same of what is heard of a valid envelope, as the search has the points
pub serves_heard : (h : Heard) → valid h.points h.limits ≡ true → (l : List AutomationPoint) → l ≡ list_of h.points → (p q : AutomationPoint) (i : ℕ) → 0 < i → i < length l
    → p ≡ point_at l (i - 1) → q ≡ point_at l i → (fits binary64 (point_at l 0).time ≡ true) × (fits binary64 (point_at l (length l - 1)).time ≡ true)
    → (fits binary64 p.time ≡ true) × (fits binary64 q.time ≡ true) → Serves (list_of h.points) (segment_of p q)
serves_heard h v l e p q i a b g k n o =
    let f : (fits binary64 (point_at l (i - 1)).time ≡ true) × (fits binary64 (point_at l i).time ≡ true) = rw (← g, ← k) o in
    rw (← e, g, k)
    (serves l (ap (every finite_point) e ∙ valid_finite h.points (points_valid h.points h.limits v)) (ap rising e ∙ times_rise h.points h.limits v) i a b n.0 f.0 f.1 n.1)
