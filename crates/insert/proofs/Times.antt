-- A time that isn't finite stays in the list: a point that replaces another has its very time. Assumes nothing.
use mathlib.Core.Path.{◌≡◌, refl, sym, ap, ◌∙◌}
use mathlib.Core.Bool.{Bool, true, false, cond, ◌&&◌, false≢true}
use mathlib.Core.List.{List, [], ◌∷◌, map}
use native.Mathlib.Omega.{arith}
use lib.Dec.{T, eqb}
use lib.Ieee.{Float, nan, inf, fin, binary64, fits}
use lib.Ieee.Fits.{nan-fits, inf-fits, add-fits}
use borrow.Author.Tests.{eqb-true}
use Rattle.numbers.specs.Bounds.{finite}
use Rattle.numbers.proofs.OrderLaws.{key_same}
use Rattle.points.specs.Point.{finite_point}
use Rattle.points.specs.Points.{every, time_key}
use Rattle.points.specs.declared.AutomationPoint.{AutomationPoint}
use Rattle.pointwise.specs.Each.{changed}
use Rattle.pointwise.specs.declared.Change.TheVariants.{Shift}
use Rattle.insert.specs.Insert.{insert_point, insert_all}

-- whether a point's time is finite, whatever else it holds
abbrev pub fine : AutomationPoint → Bool
fine q = finite q.time

-- its time is one of f64
abbrev pub Typed : AutomationPoint → Type 0
Typed q = T (fits binary64 q.time)

odd_fits : (x : Float) → finite x ≡ false → T (fits binary64 x)
unfolding finite
odd_fits nan h = nan-fits binary64
odd_fits (inf s) h = inf-fits binary64 s
odd_fits (fin s m e) h = absurd (false≢true (sym h))

-- of two points with the same key
same_fine : (q x : AutomationPoint) → Typed q → time_key x ≡ time_key q → fine q ≡ true → fine x ≡ true
same_fine q x t e h = go (fine x) refl
  where
    go : (b : Bool) → fine x ≡ b → fine x ≡ true
    go true f = f
    go false f = absurd (false≢true (sym f ∙ ap finite (key_same x.time q.time (odd_fits x.time f) t e) ∙ h))

module _ (q : AutomationPoint) (t : Typed q) where
  fine_cons : (x : AutomationPoint) (l m : List AutomationPoint) (b c : Bool) → eqb (time_key x) (time_key q) ≡ c → every fine m ≡ (fine q && every fine l)
      → every fine (cond b (x ∷ m) (cond c (q ∷ l) (q ∷ (x ∷ l)))) ≡ (fine q && every fine (x ∷ l))
  fine_cons x l m true c e h = grind arith
  fine_cons x l m false true e h = let f = same_fine q x t (eqb-true (time_key x) (time_key q) e) in grind arith
  fine_cons x l m false false e h = refl

  pub fine_insert : (l : List AutomationPoint) → every fine (insert_point q l) ≡ (fine q && every fine l)
  unfolding insert_point
  fine_insert [] = refl
  fine_insert (x ∷ l) = fine_cons x l (insert_point q l) _ _ refl (fine_insert l)

-- a point that is finite has a finite time
pub points_fine : (l : List AutomationPoint) → every finite_point l ≡ true → every fine l ≡ true
points_fine [] h = refl
points_fine (q ∷ l) h = grind (arith, points_fine l)

pub unfine : (l : List AutomationPoint) → every fine l ≡ false → every finite_point l ≡ false
unfine l h = grind (arith, points_fine l)

-- ---- points at their times plus an offset

module _ (offset : Float) where
  abbrev pub shift : AutomationPoint → AutomationPoint
  shift q = changed (Shift offset) q

  fine_shifted : (l other : List AutomationPoint) → every fine (insert_all l (map shift other)) ≡ (every fine (map shift other) && every fine l)
  fine_shifted l [] = refl
  fine_shifted l (q ∷ other) =
      fine_shifted (insert_point (shift q) l) other ∙ (rw (fine_insert (shift q) (add-fits binary64 q.time offset) l) (grind arith))

  -- their values and controls stay
  finite_shifted : (other : List AutomationPoint) → every finite_point other ≡ true → every finite_point (map shift other) ≡ every fine (map shift other)
  finite_shifted [] h = refl
  finite_shifted (q ∷ other) h = grind (arith, finite_shifted other)

  -- so one that isn't finite is found in the list
  pub shifted_lost : (l other : List AutomationPoint) → every finite_point other ≡ true → every finite_point (map shift other) ≡ false
      → every finite_point (insert_all l (map shift other)) ≡ false
  shifted_lost l other f h =
      let lost : every fine (map shift other) ≡ false = sym (finite_shifted other f) ∙ h in
      unfine (insert_all l (map shift other)) (fine_shifted l other ∙ ap (λ (b : Bool). b && every fine l) lost)
