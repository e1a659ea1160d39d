-- 02, F-2: "bit-equal .., settings and count included". Bits are compared, not numbers: −0.0 and 0.0 differ.
use Rattle.std.specs.Prelude.{ℕ, Bool, ◌&&◌, eqb, Float, Option}
use Rattle.std.specs.Bool.{beq}
use Rattle.std.specs.Option.{option_eq}
use Rattle.std.specs.Float.{Format, binary32, binary64}
use Rattle.std.specs.Float.Ieee.{to_bits}
use Rattle.curve.specs.Curve.{code, controls}
use Rattle.curve.specs.declared.CurveType.{CurveType}
use Rattle.points.specs.Points.{list_of, every_pair}
use Rattle.points.specs.declared.AutomationPoint.{AutomationPoint}
use Rattle.envelope.specs.declared.AutomationEnvelope.{AutomationEnvelope}

-- two floats of one format
abbrev pub same_bits : Format → Float → Float → Bool
same_bits f x y = eqb (to_bits f x) (to_bits f y)

-- "each a number or none"
abbrev pub bit_equal_limit : Option Float → Option Float → Bool
bit_equal_limit = option_eq (same_bits binary32)

-- "an optional sample position"
abbrev pub bit_equal_position : Option ℕ → Option ℕ → Bool
bit_equal_position = option_eq eqb

-- the curve's number, and "its two control numbers"
abbrev pub bit_equal_curve : CurveType → CurveType → Bool
bit_equal_curve c d = eqb (code c) (code d) && same_bits binary32 (controls c).cp1 (controls d).cp1 && same_bits binary32 (controls c).cp2 (controls d).cp2

-- "A point has a time, an optional sample position, a value and a curve to the next point."
abbrev pub bit_equal_point : AutomationPoint → AutomationPoint → Bool
bit_equal_point p q =
    same_bits binary64 p.time q.time && bit_equal_position p.sample_position q.sample_position && same_bits binary32 p.value q.value
    && bit_equal_curve p.curve q.curve

-- "settings and count included"
abbrev pub bit_equal_settings : AutomationEnvelope → AutomationEnvelope → Bool
bit_equal_settings e f =
    eqb e.target f.target && beq e.enabled f.enabled && beq e.hard f.hard
    && bit_equal_limit e.min_value f.min_value && bit_equal_limit e.max_value f.max_value && bit_equal_limit e.step_size f.step_size
    && eqb e.points.count f.points.count

-- "bit-equal to the one before it, settings and count included"
unfoldable pub bit_equal : AutomationEnvelope → AutomationEnvelope → Bool
bit_equal e f = bit_equal_settings e f && every_pair bit_equal_point (list_of e.points) (list_of f.points)
