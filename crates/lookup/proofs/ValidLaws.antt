-- What validity of what is heard tells. Assumes nothing.
use Rattle.std.specs.Prelude.{Err, Ok, Result}
use mathlib.Core.Path.{◌≡◌, refl}
use mathlib.Core.Bool.{Bool, true, false, cond}
use Rattle.numbers.proofs.Tests.{and_right}
use Rattle.limits.specs.Limits.{finite_limits}
use Rattle.limits.specs.declared.Limits.{Limits}
use Rattle.points.specs.Points.{list_of, rising, valid_points}
use Rattle.points.specs.declared.Points.{Points}
use Rattle.points.proofs.ValidLaws.{valid_rising}
use Rattle.lookup.specs.Valid.{valid}

pub points_valid : (ps : Points) (limits : Limits) → valid ps limits ≡ true → valid_points ps ≡ true
points_valid ps limits h = and_right (finite_limits limits) (valid_points ps) h

pub times_rise : (ps : Points) (limits : Limits) → valid ps limits ≡ true → rising (list_of ps) ≡ true
times_rise ps limits h = valid_rising ps (points_valid ps limits h)

-- a test that gives what it was asked of: it passed
pub tested : {A E : Type 0} (b : Bool) (x y : A) (why : E) (r : Result A E) → r ≡ cond b (Ok x) (Err why) → r ≡ Ok y → (b ≡ true) × (y ≡ x)
tested true x y why r e was = (refl, cc)
tested false x y why r e was = cc
