-- A session's calls as data, the order of their refusals, what each says and leaves, and what it is for calls to have run.
-- The functions' contracts say `Obeys`, of which the runs of the history theorem are made.
use Rattle.std.specs.Prelude.{ℕ, ◌+◌, ◌-◌, ◌≡◌, Bool, true, ◌&&◌, List, [], ◌∷◌, ◌++◌, length, ltb, eqb, Result}
use Rattle.points.specs.Checks.{Check, or_else, gate}
use Rattle.points.specs.Refusal.{Said, said, number}
use Rattle.points.specs.declared.refusal.Refusal.{Refusal}
use Rattle.points.specs.declared.refusal.Refusal.TheVariants.{NotValid, NoStep, MemoryLength, OtherEnvelope}
use Rattle.envelope.specs.Envelope.{valid_envelope}
use Rattle.envelope.specs.Edit.{EditTold, edit_of, join_of}
use Rattle.envelope.specs.declared.AutomationEnvelope.{AutomationEnvelope}
use Rattle.envelope.specs.declared.edit.Edit.{Edit}
use Rattle.envelope.specs.declared.edit.Join.{Join}
use Rattle.envelope.specs.declared.edit.Join.TheVariants.{Merge}
use Rattle.equal.specs.Equal.{bit_equal}
use Rattle.ask.specs.declared.Ticket.{Ticket}
use Rattle.session.specs.Session.{depth, slot_after, slot_before, valid_session, Called, called, declined, settled, stepped_over}
use Rattle.session.specs.declared.Session.{Session}

-- an edit with its arguments: of the envelope alone, with another envelope, or a merge that was asked first (F-3): "Commit takes the ticket and the session."
pub data Entry : Type 0 where
  alone : Edit → Entry
  joined : Join → AutomationEnvelope → Entry
  committed : Ticket → Entry

-- what it makes of an envelope. A commit is "`merge` on the ticket's parts": the envelope has to be the ticket's first (`fits_ticket`).
abbrev pub made_by : Entry → AutomationEnvelope → EditTold
made_by (alone edit) e = edit_of edit e
made_by (joined join other) e = join_of join e other
made_by (committed ticket) e = join_of (Merge ticket.offset) e ticket.second

-- 1 is for the other envelope too, and for both of a ticket: "Where that merge is refused, so is the commit, by the same number and in its usual place."
abbrev pub others_valid : Entry → Bool
others_valid (alone edit) = true
others_valid (joined join other) = valid_envelope other
others_valid (committed ticket) = valid_envelope ticket.first && valid_envelope ticket.second

-- 14 is for "a commit whose session envelope differs by a bit from the ticket's first", where e is the session's
abbrev pub fits_ticket : Entry → AutomationEnvelope → Bool
fits_ticket (alone edit) e = true
fits_ticket (joined join other) e = true
fits_ticket (committed ticket) e = bit_equal e ticket.first

-- demand 3's calls: "edits, steps back and steps forward"
pub data Call : Type 0 where
  edit : Entry → Call
  back : Call
  forward : Call

-- ---- the order of refusals

-- what is asked of the step memory that a call is lent; each field is true where nothing is wrong
pub record Admission : Type 0 where
  -- 11, "step memory of another length than at opening"
  pub length : Bool

-- the tests of a session's call
pub record Tests : Type 0 where
  -- 1, "envelope or session not valid": the session, and any other envelope that the call is given
  pub valid : Bool
  -- 11, of the memory
  pub admission : Admission
  -- 14, a ticket for another envelope than the session's
  pub ticket : Bool
  -- 10, "no step that way"
  pub step : Bool

-- its checks: 11
abbrev pub admission : Admission → List Check
admission a = or_else a.length MemoryLength ∷ []

-- what comes after the memory's: 14, "after 11 and before 10", and 10
abbrev pub afterwards : Tests → List Check
afterwards t = or_else t.ticket OtherEnvelope ∷ (or_else t.step NoStep ∷ [])

-- "Order: 1, 11, 10, 12, argument 3, 4, 13, 8, 7, result 3, 6, 5.", and 14 "after 11 and before 10". The first four of it, for every call of a session and for the
-- rule of its history. What comes after them is the call's own: a step's 12 (`exchanged`), and what an edit says (`settled`).
abbrev pub in_turn : Tests → List Check
in_turn t = or_else t.valid NotValid ∷ (admission t.admission ++ afterwards t)

-- ---- a call

-- 1 is for the other envelope too
abbrev pub call_valid : Call → Bool
call_valid (edit x) = others_valid x
call_valid back = true
call_valid forward = true

-- 14 is a commit's alone
abbrev pub call_fits : Call → AutomationEnvelope → Bool
call_fits (edit x) e = fits_ticket x e
call_fits back e = true
call_fits forward e = true

-- "Step back, if kept > 0", "Step forward, if an entry stands after the mark"; an edit needs no step
abbrev pub step_stands : Call → Session → Bool
step_stands (edit x) s = true
step_stands back s = ltb 0 s.kept
step_stands forward s = ltb 0 s.ahead

-- memory m against what session s holds of the one lent at opening
abbrev pub admission_of : Session → List ℕ → Admission
admission_of s m = record { length = eqb (length m) s.length }

-- the tests of a call on session s and memory m
abbrev pub tests_of : Call → Session → List ℕ → Tests
tests_of c s m =
    record { valid = valid_session s && call_valid c; admission = admission_of s m; ticket = call_fits c s.envelope; step = step_stands c s }

-- what a call does that has passed them. An edit: by what it makes of the envelope.
-- A step back: over the slot of the last edit before the mark, "mark − 1, kept − 1". A step forward: over the slot of the first entry after it, "both + 1".
abbrev pub own_of : Call → Session → List ℕ → Called
own_of (edit x) s m = settled s m (made_by x s.envelope).said (made_by x s.envelope).envelope
own_of back s m = stepped_over s m (slot_before (depth s) s.at) (slot_before (depth s) s.at) (s.kept - 1) (s.ahead + 1)
own_of forward s m = stepped_over s m s.at (slot_after (depth s) s.at) (s.kept + 1) (s.ahead - 1)

-- what a call says, and the session and the memory that it leaves
unfoldable pub call_of : Call → Session → List ℕ → Called
call_of c s m = gate (in_turn (tests_of c s m)) (λ r. declined (number r) s m) (own_of c s m)

-- for the code's own use: the tests of a step, of which so many stand
abbrev pub step_tests : Session → List ℕ → ℕ → Tests
step_tests s m steps = record { valid = valid_session s; admission = admission_of s m; ticket = true; step = ltb 0 steps }

-- a call on session s and memory m answered a and left the session s' and the memory m': the functions' contracts
abbrev pub Obeys : Session → List ℕ → Call → Result (Unit {0}) Refusal → Session → List ℕ → Type 0
Obeys s m c a s' m' = called a s' m' ≡ call_of c s m

-- "Each call gets the session and step memory as the last left them, and nobody else writes that memory."
pub data Ran : Session → List ℕ → List Call → List (Said (Unit {0})) → Session → List ℕ → Type 0 where
  done : {s : Session} {m : List ℕ} → Ran s m [] [] s m
  call : {s : Session} {m : List ℕ} {c : Call} (a : Result (Unit {0}) Refusal) {s' : Session} {m' : List ℕ} {cs : List Call} {answers : List (Said (Unit {0}))} {s'' : Session} {m'' : List ℕ}
      → Obeys s m c a s' m' → Ran s' m' cs answers s'' m'' → Ran s m (c ∷ cs) (said a ∷ answers) s'' m''
