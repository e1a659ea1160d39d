-- 01, "The session": its rule over a list of calls, with no step memory in it; as 02's F-2 and F-3 change it.
use Rattle.std.specs.Prelude.{ℕ, ◌+◌, ◌-◌, min, Bool, true, cond, List, [], ◌∷◌, ◌++◌, length, take, ltb}
use Rattle.points.specs.Checks.{gate}
use Rattle.points.specs.Refusal.{Said, refuses, gives, number}
use Rattle.envelope.specs.Edit.{EditTold}
use Rattle.envelope.specs.declared.AutomationEnvelope.{AutomationEnvelope}
use Rattle.equal.specs.Equal.{bit_equal}
use Rattle.session.specs.Calls.{Entry, made_by, Call, edit, back, forward, call_valid, call_fits, Tests, in_turn}

-- "State: the edits that count, in a list; a mark in it; kept."
pub record Hist : Type 0 where
  pub edits : List Entry
  pub mark : ℕ
  pub kept : ℕ

-- "A new one: empty list, mark 0, kept 0."
abbrev pub new_hist : Hist
new_hist = record { edits = []; mark = 0; kept = 0 }

-- edits applied in order
unfoldable pub made : List Entry → AutomationEnvelope → AutomationEnvelope
made [] e = e
made (x ∷ xs) e = made xs (made_by x e).envelope

-- the envelope that the first k edits of the list give, from the start
unfoldable pub up_to : AutomationEnvelope → Hist → ℕ → AutomationEnvelope
up_to start h k = made (take k h.edits) start

-- "The envelope is the edits before the mark applied in order"
abbrev pub envelope_of : AutomationEnvelope → Hist → AutomationEnvelope
envelope_of start h = up_to start h h.mark

-- "Ahead are the entries after the mark"
abbrev pub ahead_of : Hist → ℕ
ahead_of h = length h.edits - h.mark

-- what a call says, and the history that it leaves
pub record Ruled : Type 0 where
  pub said : Said (Unit {0})
  pub hist : Hist

-- "Lookups and refusals alter none of it."
abbrev pub rule_refuses : ℕ → Hist → Ruled
rule_refuses n h = record { said = refuses n; hist = h }

-- an accepted call's history
abbrev pub rule_accepts : Hist → Ruled
rule_accepts h = record { said = gives tt; hist = h }

-- "Accepted edit: entries after the mark go, the edit joins, mark + 1, kept + 1 but at most D."
abbrev pub joined_by : ℕ → Hist → Entry → Hist
joined_by d h x = record { edits = take h.mark h.edits ++ (x ∷ []); mark = h.mark + 1; kept = min (h.kept + 1) d }

-- by what a call says: the history as it was, or another
abbrev pub ruled_by : Said (Unit {0}) → Hist → Hist → Ruled
ruled_by (refuses n) old new = rule_refuses n old
ruled_by (gives u) old new = rule_accepts new

-- in place of 01's "It counts even if it changed nothing", F-2: "An accepted edit whose envelope is bit-equal to the one before it, settings and count included,
-- no longer joins the list. It also leaves the steps ahead standing." and "mark and kept staying too": the history as it was
abbrev pub altered : ℕ → Hist → Entry → AutomationEnvelope → AutomationEnvelope → Hist
altered d h x before after = cond (bit_equal before after) h (joined_by d h x)

-- an edit by what it says and makes of the envelope e
abbrev pub edit_ruled : ℕ → Hist → Entry → AutomationEnvelope → EditTold → Ruled
edit_ruled d h x e told = ruled_by told.said h (altered d h x e told.envelope)

-- a step back: "mark − 1, kept − 1"
abbrev pub stepped_back : Hist → Hist
stepped_back h = record { edits = h.edits; mark = h.mark - 1; kept = h.kept - 1 }

-- a step forward: "both + 1"
abbrev pub stepped_forward : Hist → Hist
stepped_forward h = record { edits = h.edits; mark = h.mark + 1; kept = h.kept + 1 }

-- "Step back, if kept > 0", "Step forward, if an entry stands after the mark", else 10; an edit needs no step
abbrev pub stands_in : Hist → Call → Bool
stands_in h (edit x) = true
stands_in h back = ltb 0 h.kept
stands_in h forward = ltb h.mark (length h.edits)

-- the tests of a call by the rule: "Each call gets the session and step memory as the last left them", so 1 is only for another envelope and 11 for none;
-- 14 where the envelope differs by a bit from the ticket's first
abbrev pub rule_tests : AutomationEnvelope → Hist → Call → Tests
rule_tests start h c = record { valid = call_valid c; admission = record { length = true }; ticket = call_fits c (envelope_of start h); step = stands_in h c }

-- what a call does that has passed them, from this start and with a memory for d states
abbrev pub ruled : AutomationEnvelope → ℕ → Hist → Call → Ruled
ruled start d h (edit x) = edit_ruled d h x (envelope_of start h) (made_by x (envelope_of start h))
ruled start d h back = rule_accepts (stepped_back h)
ruled start d h forward = rule_accepts (stepped_forward h)

-- the rule for one call, in the session's order of refusals
unfoldable pub rule_of : AutomationEnvelope → ℕ → Hist → Call → Ruled
rule_of start d h c = gate (in_turn (rule_tests start h c)) (λ r. rule_refuses (number r) h) (ruled start d h c)

-- the history after a list of calls
unfoldable pub hist_after : AutomationEnvelope → ℕ → Hist → List Call → Hist
hist_after start d h [] = h
hist_after start d h (c ∷ cs) = hist_after start d (rule_of start d h c).hist cs

-- what the calls of a list say
unfoldable pub answers_after : AutomationEnvelope → ℕ → Hist → List Call → List (Said (Unit {0}))
answers_after start d h [] = []
answers_after start d h (c ∷ cs) = (rule_of start d h c).said ∷ answers_after start d (rule_of start d h c).hist cs
