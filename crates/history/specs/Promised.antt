-- Demand 3, the history theorem: statements alone, each proved by the law that its comment names.
use Rattle.std.specs.Prelude.{ℕ, ◌<◌, ◌≡◌, true, false, List, ◌∷◌, ◌++◌, length}
use Rattle.points.specs.Points.{every}
use Rattle.points.specs.Refusal.{Said, refuses}
use Rattle.envelope.specs.Envelope.{new, valid_envelope}
use Rattle.envelope.specs.Typed.{typed}
use Rattle.envelope.specs.declared.AutomationEnvelope.{AutomationEnvelope}
use Rattle.session.specs.Session.{opened, open_session}
use Rattle.equal.specs.Equal.{bit_equal}
use Rattle.session.specs.Calls.{Entry, made_by, Call, edit, call_valid, call_fits, Ran}
use Rattle.session.specs.declared.Session.{Session}
use Rattle.history.specs.Rule.{Hist, envelope_of, rule_refuses, rule_of, hist_after}
use Rattle.history.specs.After.{typed_call, After}

-- one statement over every list of calls, from a session that was opened with any valid envelope (`history`, proofs/History)
abbrev pub HistoryFrom : Type 0
HistoryFrom =
    (start : AutomationEnvelope) → typed start ≡ true → valid_envelope start ≡ true → (m₀ : List ℕ) (cs : List Call) → every typed_call cs ≡ true
    → (answers : List (Said (Unit {0}))) (s : Session) (m : List ℕ) → Ran (opened start (length m₀)) m₀ cs answers s m → After start m₀ cs answers s m

-- "Demand 3's list starts with what opening gives for any target and step memory" (`history_new`, there)
abbrev pub History : Type 0
History =
    (target : ℕ) → target < 0x1_0000_0000 → (m₀ : List ℕ) (cs : List Call) → every typed_call cs ≡ true
    → (answers : List (Said (Unit {0}))) (s : Session) (m : List ℕ) → Ran (open_session target m₀) m₀ cs answers s m → After (new target) m₀ cs answers s m

-- F-2: "idle edits may stand anywhere in the history theorem's list": one that leaves every bit of the envelope leaves the history that the list has without it
-- (`idle_anywhere`, proofs/Idle)
abbrev pub IdleEditsDontCount : Type 0
IdleEditsDontCount =
    (start : AutomationEnvelope) (d : ℕ) (h : Hist) (before after : List Call) (x : Entry)
    → bit_equal (envelope_of start (hist_after start d h before)) (made_by x (envelope_of start (hist_after start d h before))).envelope ≡ true
    → hist_after start d h (before ++ (edit x ∷ after)) ≡ hist_after start d h (before ++ after)

-- F-3: "It refuses with 14, after 11 and before 10, a commit whose session envelope differs by a bit from the ticket's first": by the rule there, unless 1 applies, and
-- the history stays (`fourteen_given`, proofs/Tickets)
abbrev pub FourteenWhereItDiffers : Type 0
FourteenWhereItDiffers =
    (start : AutomationEnvelope) (d : ℕ) (h : Hist) (c : Call) → call_valid c ≡ true → call_fits c (envelope_of start h) ≡ false → rule_of start d h c ≡ rule_refuses 14 h

-- and nowhere else, whatever the call (`fourteen_only`, there)
abbrev pub FourteenNowhereElse : Type 0
FourteenNowhereElse =
    (start : AutomationEnvelope) (d : ℕ) (h : Hist) (c : Call) → (rule_of start d h c).said ≡ refuses 14 → (call_valid c ≡ true) × (call_fits c (envelope_of start h) ≡ false)
