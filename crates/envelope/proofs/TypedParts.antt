-- What `typed` says of each number of an envelope and of its points. Assumes nothing.
use Prim.Native.Nat.{◌<◌}
use mathlib.Core.Path.{◌≡◌}
use mathlib.Core.Bool.{true}
use native.Mathlib.Omega.{arith}
use lib.Dec.{ltb}
use lib.Ieee.{binary32, binary64, fits}
use lib.ListN.{length}
use Rattle.std.proofs.lemmas.Bool.Decides.{nat_tests}
use Rattle.curve.specs.Curve.{controls}
use Rattle.points.specs.Points.{every}
use Rattle.points.specs.declared.AutomationPoint.{AutomationPoint}
use Rattle.envelope.specs.Typed.{typed_curve, typed_position, typed_point, typed_points, typed_limit, typed}
use Rattle.envelope.specs.declared.AutomationEnvelope.{AutomationEnvelope}

module _ (p : AutomationPoint) (t : typed_point p ≡ true) where
  -- the time, the position, the value, the curve
  pub point_parts : (fits binary64 p.time ≡ true) × (typed_position p.sample_position ≡ true) × (fits binary32 p.value ≡ true) × (typed_curve p.curve ≡ true)
  point_parts = grind arith

  pub cp1_fits : fits binary32 (controls p.curve).cp1 ≡ true
  cp1_fits = grind arith

  pub cp2_fits : fits binary32 (controls p.curve).cp2 ≡ true
  cp2_fits = grind arith

-- what an envelope in range has
pub record Parts (e : AutomationEnvelope) : Type 0 where
  pub target : ltb e.target 0x1_0000_0000 ≡ true
  pub least : typed_limit e.min_value ≡ true
  pub greatest : typed_limit e.max_value ≡ true
  pub step : typed_limit e.step_size ≡ true
  pub points : typed_points e.points ≡ true

module _ (e : AutomationEnvelope) (t : typed e ≡ true) where
  pub parted : Parts e
  unfolding typed
  parted = record { target = grind arith; least = grind arith; greatest = grind arith; step = grind arith; points = grind arith }

  pub target_lt : e.target < 0x1_0000_0000
  unfolding typed
  target_lt = grind (arith, nat_tests)

  pub places_length : length e.points.places ≡ 256
  unfolding typed
  places_length = grind (arith, nat_tests)

  pub places_typed : every typed_point e.points.places ≡ true
  unfolding typed
  places_typed = grind arith
