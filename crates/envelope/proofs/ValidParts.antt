-- The parts of an envelope's validity. Assumes nothing.
use mathlib.Core.Path.{◌≡◌}
use mathlib.Core.Bool.{true}
use native.Mathlib.Omega.{arith}
use Rattle.points.specs.Points.{valid_points}
use Rattle.limits.specs.Limits.{finite_limits}
use Rattle.envelope.specs.Envelope.{limits_of, valid_envelope}
use Rattle.envelope.specs.declared.AutomationEnvelope.{AutomationEnvelope}

module _ (e : AutomationEnvelope) (v : valid_envelope e ≡ true) where
  pub limits_finite : finite_limits (limits_of e) ≡ true
  limits_finite = grind arith

  pub points_valid : valid_points e.points ≡ true
  points_valid = grind arith
