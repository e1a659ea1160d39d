-- 01's proved example of the session, two of 02's F-2 and one of F-3.
use Rattle.std.specs.Prelude.{ℕ, ◌≡◌, refl, List, [], ◌∷◌, replicate, Some}
use Rattle.std.specs.Float.{binary32, binary64, round_with}
use Rattle.std.specs.Float.Ieee.{of_bits, to_bits, of_int, to_unsigned, round, mul, div, le}
use Rattle.curve.specs.declared.CurveType.TheVariants.{Linear}
use Rattle.points.specs.Checks.{first_failing}
use Rattle.points.specs.Refusal.{Said, refuses, gives}
use Rattle.points.specs.Point.{point_with}
use Rattle.insert.specs.Insert.{insert_point}
use Rattle.numbers.specs.Bounds.{finite}
use Rattle.numbers.specs.Order.{order_key}
use Rattle.shape.specs.Shape.{firsts}
use Rattle.curve.specs.Curve.{code, controls, curve_of, finite_controls}
use Rattle.points.specs.Points.{holding, every_pair, rising_by, valid_points}
use Rattle.envelope.specs.Envelope.{new}
use Rattle.envelope.specs.Edit.{with_points, edit_of}
use Rattle.envelope.specs.declared.AutomationEnvelope.{AutomationEnvelope}
use Rattle.envelope.specs.declared.edit.Edit.TheVariants.{OfPoints, SetMin}
use Rattle.envelope.specs.declared.edit.PointsEdit.TheVariants.{AddPoint, QuantizeTime}
use Rattle.equal.specs.Equal.{bit_equal}
use Rattle.state.specs.State.{pack_settings, pack_point, pack_points, pack, point_of, points_of, state_of, unpacked}
use Rattle.session.specs.Session.{open_session, state_at, stored, slot_after, slot_before, in_order}
use Rattle.session.specs.Calls.{alone, committed, Call, edit, back, forward, call_of}
use Rattle.session.specs.declared.Session.{Session}

-- adding a point, its time and its value by their bits
abbrev add : ℕ → ℕ → Call
add time value = edit (alone (OfPoints (AddPoint (point_with (of_bits binary64 time) (of_bits binary32 value) Linear))))

-- quantizing, the grid by its bits
abbrev quantize : ℕ → Call
quantize grid = edit (alone (OfPoints (QuantizeTime (of_bits binary64 grid))))

-- setting the minimum, by its bits
abbrev set_min : ℕ → Call
set_min bits = edit (alone (SetMin (Some (of_bits binary32 bits))))

-- "P13 D = 1: edit, edit, back, back (10), forward."
abbrev pub p13_calls : List Call
p13_calls = add 0 0 ∷ add 0x3FF0_0000_0000_0000 0x3F80_0000 ∷ back ∷ back ∷ forward ∷ []

-- F-2, D = 1: a point at 1.0; "quantizing on an already quantized move", which takes no step; back, over the point; quantizing nothing, which leaves the step ahead
-- standing; forward; forward (10)
abbrev pub idle_calls : List Call
idle_calls = add 0x3FF0_0000_0000_0000 0x3F80_0000 ∷ quantize 0x3FF0_0000_0000_0000 ∷ back ∷ quantize 0x3FF0_0000_0000_0000 ∷ forward ∷ forward ∷ []

-- F-2, D = 2: the minimum set to 0.0; to −0.0, which is another bit; to −0.0 again, which takes no step; back, back, back (10)
abbrev pub zero_calls : List Call
zero_calls = set_min 0 ∷ set_min 0x8000_0000 ∷ set_min 0x8000_0000 ∷ back ∷ back ∷ back ∷ []

-- an envelope with one point, at 1.0
abbrev pub one : AutomationEnvelope
one = with_points (new 5) (holding (point_with (of_bits binary64 0x3FF0_0000_0000_0000) (of_bits binary32 0x3F80_0000) Linear ∷ []))

-- the commit of that one's merge into what a session of target 3 opens with, the offset by its bits
abbrev commit : ℕ → Call
commit offset = edit (committed (record { first = new 3; second = one; offset = of_bits binary64 offset }))

-- F-3, D = 1: a commit; the same again (14), and with a NaN for its offset (14, before 3); back; the NaN (3); the commit, once more
abbrev pub commit_calls : List Call
commit_calls = commit 0 ∷ commit 0 ∷ commit 0x7FF8_0000_0000_0000 ∷ back ∷ commit 0x7FF8_0000_0000_0000 ∷ commit 0 ∷ []

-- what the functions answer to P13's and to the first of these, on a step memory of 1,028 words; the rule's answers stand in the table
unfoldable pub answers_of : Session → List ℕ → List Call → List (Said (Unit {0}))
answers_of s m [] = []
answers_of s m (c ∷ cs) = (call_of c s m).said ∷ answers_of (call_of c s m).session (call_of c s m).memory cs

pub p13_functions : answers_of (open_session 3 (replicate 1028 7)) (replicate 1028 7) p13_calls ≡ gives tt ∷ gives tt ∷ gives tt ∷ refuses 10 ∷ gives tt ∷ []
unfolding answers_of open_session state_at stored slot_after slot_before in_order call_of first_failing bit_equal new edit_of insert_point valid_points every_pair rising_by finite finite_controls controls code curve_of order_key of_bits to_bits pack_settings pack_point pack_points pack point_of points_of state_of unpacked
p13_functions = refl

pub idle_functions : answers_of (open_session 3 (replicate 1028 7)) (replicate 1028 7) idle_calls ≡ gives tt ∷ gives tt ∷ gives tt ∷ gives tt ∷ gives tt ∷ refuses 10 ∷ []
unfolding answers_of open_session state_at stored slot_after slot_before in_order call_of first_failing bit_equal new edit_of insert_point valid_points every_pair rising_by finite finite_controls controls code curve_of order_key of_bits to_bits pack_settings pack_point pack_points pack point_of points_of state_of unpacked firsts round_with round mul div le to_unsigned of_int
idle_functions = refl
