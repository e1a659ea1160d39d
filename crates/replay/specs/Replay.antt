-- The calls that the commands of a list stand for, and what holds after their replay.
use Rattle.std.specs.Prelude.{ℕ, ◌≡◌, List, map, Float, length, take, drop, Result}
use Rattle.curve.specs.declared.CurveType.TheVariants.{Linear}
use Rattle.points.specs.Refusal.{said}
use Rattle.points.specs.Point.{point_with}
use Rattle.points.specs.declared.refusal.Refusal.{Refusal}
use Rattle.envelope.specs.Envelope.{new}
use Rattle.envelope.specs.Edit.{edit_of}
use Rattle.envelope.specs.declared.AutomationEnvelope.{AutomationEnvelope}
use Rattle.envelope.specs.declared.edit.Edit.TheVariants as of
use Rattle.envelope.specs.declared.edit.Join.TheVariants as of_two
use Rattle.envelope.specs.declared.edit.PointsEdit.TheVariants as of_points
use Rattle.session.specs.Session.{open_session}
use Rattle.ask.specs.declared.Ticket.{Ticket}
use Rattle.session.specs.Calls.{alone, joined, committed, Call, edit, back, forward, Ran}
use Rattle.session.specs.declared.Session.{Session}
use Rattle.history.specs.After.{After}
use Rattle.replay.specs.declared.Command.{Command}
use Rattle.replay.specs.declared.Command.TheVariants.{Back, Forward, SetEnabled, ShiftPoints, Scale, AddPoint, Merge, Commit}

-- the envelope with one point: what a merge takes
unfoldable pub other_from : Float → Float → AutomationEnvelope
other_from x y = (edit_of (of.OfPoints (of_points.AddPoint (point_with x y Linear))) (new 0)).envelope

-- a ticket whose first is that one, and its second too
unfoldable pub ticket_from : Float → Float → Ticket
unfolding other_from
ticket_from x y = record { first = other_from x y; second = other_from x y; offset = x }

-- the call of a command
abbrev pub call_from : Command → Call
call_from Back = back
call_from Forward = forward
call_from (SetEnabled on) = edit (alone (of.SetEnabled on))
call_from (ShiftPoints offset) = edit (alone (of.OfPoints (of_points.ShiftPoints offset)))
call_from (Scale factor) = edit (alone (of.OfPoints (of_points.Scale factor)))
call_from (AddPoint x y) = edit (alone (of.OfPoints (of_points.AddPoint (point_with x y Linear))))
call_from (Merge x y) = edit (joined (of_two.Merge x) (other_from x y))
call_from (Commit x y) = edit (committed (ticket_from x y))

-- the calls that are replayed: as many as there are places for their answers
unfoldable pub replayed : List Command → List (Result (Unit {0}) Refusal) → List Call
replayed commands answers = take (length answers) (map call_from commands)

-- what holds after the replay of these calls
pub record AfterReplay (target : ℕ) (m₀ : List ℕ) (cs : List Call) (answers₀ answers : List (Result (Unit {0}) Refusal)) (s : Session) (m : List ℕ) : Type 0 where
  -- they ran from a new session, each on the session and the memory "as the last left them", and said what their answers say
  pub ran : Ran (open_session target m₀) m₀ cs (map said (take (length cs) answers)) s m
  -- demand 3
  pub after : After (new target) m₀ cs (map said (take (length cs) answers)) s m
  -- the places after the answers stay
  pub rest : drop (length cs) answers ≡ drop (length cs) answers₀
