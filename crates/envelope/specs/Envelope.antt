-- 01, "Kept, and written anew": the envelope record, `new`, validity, `eq` and `eq_exact`.
use Rattle.std.specs.Prelude.{ℕ, Bool, true, false, cond, ◌&&◌, [], eqb, Err, Float, None, Ok, Option, Result}
use Rattle.std.specs.Bool.{beq}
use Rattle.std.specs.Option.{option_eq}
use Rattle.std.specs.Float.Ieee.{eq}
use Rattle.points.specs.Refusal.{Said, refuses, gives}
use Rattle.points.specs.Point.{matching}
use Rattle.points.specs.Points.{list_of, holding, every_pair}
use Rattle.points.specs.declared.refusal.Refusal.{Refusal}
use Rattle.points.specs.declared.refusal.Refusal.TheVariants.{NotValid}
use Rattle.lookup.specs.Heard.{Heard}
use Rattle.lookup.specs.Valid.{valid}
use Rattle.limits.specs.declared.Limits.{Limits}
use Rattle.envelope.specs.declared.AutomationEnvelope.{AutomationEnvelope}

-- 000's `new`: enabled, no points, no limits; F-1: hard is "off by default"
unfoldable pub new : ℕ → AutomationEnvelope
new target = record { target = target; points = holding []; enabled = true; min_value = None; max_value = None; step_size = None; hard = false }

-- the minimum, the maximum, the step, and hard
abbrev pub limits_of : AutomationEnvelope → Limits
limits_of e = record { min_value = e.min_value; max_value = e.max_value; step_size = e.step_size; hard = e.hard }

-- what a lookup takes of an envelope
abbrev pub heard_of : AutomationEnvelope → Heard
heard_of e = record { points = e.points; enabled = e.enabled; limits = limits_of e }

-- "An envelope is valid if .."
abbrev pub valid_envelope : AutomationEnvelope → Bool
valid_envelope e = valid e.points (limits_of e)

-- "1 envelope not valid", for the code's own use
abbrev pub checked : AutomationEnvelope → Result (Unit {0}) Refusal
checked e = cond (valid_envelope e) (Ok tt) (Err NotValid)

-- two of 000's Option<f32>: equal as numbers, or both none
abbrev pub same_limit : Option Float → Option Float → Bool
same_limit = option_eq eq

-- the minimum, the maximum, the step and hard, field by field
abbrev pub same_limits : Limits → Limits → Bool
same_limits l m = same_limit l.min_value m.min_value && (same_limit l.max_value m.max_value && (same_limit l.step_size m.step_size && beq l.hard m.hard))

-- the fields but the points
abbrev pub same_settings : AutomationEnvelope → AutomationEnvelope → Bool
same_settings e f = eqb e.target f.target && beq e.enabled f.enabled && same_limits (limits_of e) (limits_of f)

-- 000's `eq` (exact false) and `eq_exact` (exact true): field by field, and as many points, each like the other's; with refusal 1
unfoldable pub envelopes_equal : Bool → AutomationEnvelope → AutomationEnvelope → Said Bool
envelopes_equal exact e f =
    cond (valid_envelope e && valid_envelope f)
    (gives (same_settings e f && every_pair (matching exact) (list_of e.points) (list_of f.points)))
    (refuses 1)
