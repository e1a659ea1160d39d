-- The Bench's edits, in 01's terms: what an edit says, and the envelope that comes back. `edit_of` is 01's list of edits.
use Rattle.std.specs.Prelude.{ℕ, Bool, true, cond, ◌&&◌, List, map, Err, Float, Ok, Option, Result}
use Rattle.numbers.specs.Bounds.{finite}
use Rattle.curve.specs.Curve.{finite_controls}
use Rattle.curve.specs.F32.{f0, f1}
use Rattle.points.specs.Checks.{first_failing, gate}
use Rattle.points.specs.Refusal.{Said, refuses, gives, number, said}
use Rattle.points.specs.Point.{finite_point}
use Rattle.points.specs.Points.{list_of, holding, valid_points}
use Rattle.points.specs.declared.AutomationPoint.{AutomationPoint}
use Rattle.points.specs.declared.Points.{Points}
use Rattle.points.specs.declared.refusal.Refusal.{Refusal}
use Rattle.points.specs.declared.refusal.Refusal.TheVariants.{NotValid, NotFinite}
use Rattle.settle.specs.Settle.{Proposal, plain, causes, judged}
use Rattle.pointwise.specs.Each.{changed, scaled_time, normalized, clamping, faded_in_all, faded_out_all}
use Rattle.pointwise.specs.declared.Change.TheVariants as change
use Rattle.insert.specs.Insert.{insert_point, merged, ramp_list, pulse_list}
use Rattle.shape.specs.Shape.{keep_if, inside, remove_first, near, reversed, quantized, simplified}
use Rattle.limits.specs.Limits.{finite_limit, finite_limits}
use Rattle.limits.specs.declared.Limits.{Limits}
use Rattle.combine.specs.Combine.{finite_operation, combined_list}
use Rattle.envelope.specs.Envelope.{new, limits_of, heard_of, valid_envelope}
use Rattle.envelope.specs.declared.AutomationEnvelope.{AutomationEnvelope}
use Rattle.envelope.specs.declared.edit.PointsEdit.{PointsEdit}
use Rattle.envelope.specs.declared.edit.PointsEdit.TheVariants.{AddPoint, RemovePointAt, ShiftPoints, ScaleTime, Trim, Reverse, InvertValues, QuantizeTime, Simplify, Normalize, Scale}
use Rattle.envelope.specs.declared.edit.PointsEdit.TheVariants.{Offset, ClampValues, ApplyFadeIn, ApplyFadeOut, ApplyFades, ApplyGate, ApplyCompression}
use Rattle.envelope.specs.declared.edit.Replacement.{Replacement}
use Rattle.envelope.specs.declared.edit.Replacement.TheVariants.{FadeIn, FadeOut, Pulse, Ramp}
use Rattle.envelope.specs.declared.edit.Edit.{Edit}
use Rattle.envelope.specs.declared.edit.Edit.TheVariants.{OfPoints, Replace, SetEnabled, SetMin, SetMax, SetStep, SetHard}
use Rattle.envelope.specs.declared.edit.Join.{Join}
use Rattle.envelope.specs.declared.edit.Join.TheVariants.{Merge, Combine}

-- "the envelope goes in and its changed successor comes back"
pub record EditTold : Type 0 where
  pub said : Said (Unit {0})
  pub envelope : AutomationEnvelope

-- an edit's answer in these terms: behind a refusal none comes back, and the caller's own is what it was
abbrev pub told_edit : AutomationEnvelope → Result AutomationEnvelope Refusal → EditTold
told_edit e (Ok made) = record { said = gives tt; envelope = made }
told_edit e (Err r) = record { said = refuses (number r); envelope = e }

-- "A refusal returns its number .. and changes nothing."
abbrev pub declined : AutomationEnvelope → ℕ → EditTold
declined e n = record { said = refuses n; envelope = e }

-- the envelope with the edit's refusal, or the one that the edit makes
unfoldable pub outcome : AutomationEnvelope → Bool → Proposal → AutomationEnvelope → EditTold
unfolding first_failing
outcome e valid p made = gate (causes valid p) (λ r. declined e (number r)) (record { said = gives tt; envelope = made })

-- ---- what an edit asks of its arguments, and the list that it makes of the points

-- the edits of the points, as 000 has them
unfoldable pub proposed : PointsEdit → List AutomationPoint → Proposal
proposed (AddPoint p) l = plain (finite_point p) (insert_point p l)
proposed (RemovePointAt time) l = plain (finite time) (remove_first (near time) l)
proposed (ShiftPoints offset) l = plain (finite offset) (map (changed (change.Shift offset)) l)
proposed (ScaleTime factor) l = plain (finite factor) (scaled_time factor l)
proposed (Trim start end) l = plain (finite start && finite end) (keep_if (inside start end) l)
proposed Reverse l = plain true (reversed l)
proposed (InvertValues min max) l = plain (finite min && finite max) (map (changed (change.Invert min max)) l)
proposed (QuantizeTime grid) l = plain (finite grid) (quantized grid l)
proposed (Simplify tolerance) l = plain (finite tolerance) (simplified tolerance l)
proposed (Normalize min max) l = plain (finite min && finite max) (normalized min max l)
proposed (Scale factor) l = plain (finite factor) (map (changed (change.Scale factor)) l)
proposed (Offset amount) l = plain (finite amount) (map (changed (change.Offset amount)) l)
proposed (ClampValues min max) l = clamping min max l
proposed (ApplyFadeIn duration c) l = plain (finite duration && finite_controls c) (faded_in_all duration c l)
proposed (ApplyFadeOut duration c) l = plain (finite duration && finite_controls c) (faded_out_all duration c l)
proposed (ApplyFades fade_in fade_out c) l = plain (finite fade_in && finite fade_out && finite_controls c) (faded_out_all fade_out c (faded_in_all fade_in c l))
proposed (ApplyGate threshold) l = plain (finite threshold) (map (changed (change.Gate threshold)) l)
proposed (ApplyCompression threshold ratio) l = plain (finite threshold && finite ratio) (map (changed (change.Compress threshold ratio)) l)

-- fade_in, fade_out, pulse and ramp, whatever the points are
unfoldable pub constructed : Replacement → Proposal
constructed (FadeIn duration c) = plain (finite duration && finite_controls c) (ramp_list duration f0 f1 c)
constructed (FadeOut duration c) = plain (finite duration && finite_controls c) (ramp_list duration f1 f0 c)
constructed (Pulse fade_in sustain fade_out c) = plain (finite fade_in && finite sustain && finite fade_out && finite_controls c) (pulse_list fade_in sustain fade_out c)
constructed (Ramp duration start end c) = plain (finite duration && finite start && finite end && finite_controls c) (ramp_list duration start end c)

-- any edit; "the setting of enabled, and of minimum, maximum and step (each a number or none)", and of hard, "set by an edit as enabled is" (F-1), keeps the points
unfoldable pub proposal : Edit → List AutomationPoint → Proposal
unfolding proposed constructed
proposal (OfPoints d) l = proposed d l
proposal (Replace d) l = constructed d
proposal (SetEnabled on) l = plain true l
proposal (SetMin limit) l = plain (finite_limit limit) l
proposal (SetMax limit) l = plain (finite_limit limit) l
proposal (SetStep limit) l = plain (finite_limit limit) l
proposal (SetHard on) l = plain true l

-- ---- the envelope that it makes

-- the same envelope with other points
abbrev pub with_points : AutomationEnvelope → Points → AutomationEnvelope
with_points e ps = record { target = e.target; points = ps; enabled = e.enabled; min_value = e.min_value; max_value = e.max_value; step_size = e.step_size; hard = e.hard }

-- what 000's constructors and its `combine` make: an envelope of `new`, "given the target the envelope has"
abbrev pub anew : AutomationEnvelope → List AutomationPoint → AutomationEnvelope
anew e l = with_points (new e.target) (holding l)

-- the same envelope with another switch and other limits
abbrev pub with_settings : AutomationEnvelope → Bool → Limits → AutomationEnvelope
with_settings e enabled l = record { target = e.target; points = e.points; enabled = enabled; min_value = l.min_value; max_value = l.max_value; step_size = l.step_size; hard = l.hard }

-- what an edit makes of e and its list
unfoldable pub successor : Edit → AutomationEnvelope → List AutomationPoint → AutomationEnvelope
unfolding new
successor (OfPoints d) e l = with_points e (holding l)
successor (Replace d) e l = anew e l
successor (SetEnabled on) e l = with_settings e on (limits_of e)
successor (SetMin limit) e l = with_settings e e.enabled (record { min_value = limit; max_value = e.max_value; step_size = e.step_size; hard = e.hard })
successor (SetMax limit) e l = with_settings e e.enabled (record { min_value = e.min_value; max_value = limit; step_size = e.step_size; hard = e.hard })
successor (SetStep limit) e l = with_settings e e.enabled (record { min_value = e.min_value; max_value = e.max_value; step_size = limit; hard = e.hard })
successor (SetHard on) e l = with_settings e e.enabled (record { min_value = e.min_value; max_value = e.max_value; step_size = e.step_size; hard = on })

-- ---- 01's list of edits, each with 1, argument 3, 4, and the result's 3, 6, 5
unfoldable pub edit_of : Edit → AutomationEnvelope → EditTold
unfolding outcome proposal successor
edit_of d e = let p = proposal d (list_of e.points) in outcome e (valid_envelope e) p (successor d e p.list)

-- ---- 01's edits that take a second envelope, the envelope first, then the other

-- what each asks of its arguments, and the list that it makes of both envelopes' points
unfoldable pub join_proposal : Join → AutomationEnvelope → AutomationEnvelope → Proposal
join_proposal (Merge offset) e other = plain (finite offset) (merged (list_of e.points) (list_of other.points) offset)
join_proposal (Combine op) e other = plain (finite_operation op) (combined_list op (heard_of e) (heard_of other))

-- "A combination has no constraints, is enabled, .. and keeps the first target"
unfoldable pub join_successor : Join → AutomationEnvelope → List AutomationPoint → AutomationEnvelope
unfolding new
join_successor (Merge offset) e l = with_points e (holding l)
join_successor (Combine op) e l = anew e l

-- 1 for either envelope
unfoldable pub join_of : Join → AutomationEnvelope → AutomationEnvelope → EditTold
unfolding outcome join_proposal join_successor
join_of j e other = let p = join_proposal j e other in outcome e (valid_envelope e && valid_envelope other) p (join_successor j e p.list)

-- ---- for the code's own use: the points by themselves, then the envelope

-- what an edit of the points makes of them
unfoldable pub points_edited : PointsEdit → Points → Result Points Refusal
unfolding judged proposed
points_edited d ps = judged (valid_points ps) (proposed d (list_of ps))

-- what one of 000's constructors makes of them
unfoldable pub replaced_points : Replacement → Points → Result Points Refusal
unfolding judged constructed
replaced_points d ps = judged (valid_points ps) (constructed d)

-- a limit's setting keeps the points, so that only the envelope and the limit can refuse it
abbrev pub limit_checked : AutomationEnvelope → Option Float → Result (Unit {0}) Refusal
limit_checked e limit = cond (valid_envelope e) (cond (finite_limit limit) (Ok tt) (Err NotFinite)) (Err NotValid)
