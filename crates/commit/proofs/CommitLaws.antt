-- A commit's ways out, for its functions' proofs, and what specs/Promised says of it. Assumes nothing.
use Rattle.std.specs.Prelude.{None, Option, Some}
use Prim.Native.Nat.{ℕ}
use mathlib.Core.Path.{◌≡◌, refl, ap, sym, ◌∙◌}
use mathlib.Core.Bool.{Bool, true, false, cond, ◌&&◌}
use mathlib.Core.List.{List, []}
use lib.Dec.{eqb}
use lib.ListN.{length}
use borrow.Author.Tests.{eq-eqb}
use Rattle.numbers.proofs.Tests.{and_left, and_right}
use Rattle.points.specs.Checks.{first_failing, unless_refused, gate}
use Rattle.points.specs.Points.{every}
use Rattle.points.proofs.CheckLaws.{never, all_hold, first_holds, first_fails, passed_over, stopped_at}
use Rattle.points.specs.Refusal.{Said, refuses, gives, number}
use Rattle.points.specs.declared.refusal.Refusal.{Refusal}
use Rattle.points.specs.declared.refusal.Refusal.TheVariants.{NotValid, MemoryLength, OtherEnvelope}
use Rattle.envelope.specs.Envelope.{valid_envelope}
use Rattle.envelope.specs.Edit.{EditTold, join_of}
use Rattle.envelope.proofs.JoinLaws.{join_valid, join_typed}
use Rattle.envelope.specs.declared.AutomationEnvelope.{AutomationEnvelope}
use Rattle.envelope.specs.declared.edit.Join.TheVariants.{Merge}
use Rattle.equal.specs.Equal.{bit_equal}
use Rattle.equal.proofs.EqualLaws.{bit_equal_same, bit_equal_self}
use Rattle.ask.specs.Ask.{count_if, count_said, ask_of}
use Rattle.ask.specs.declared.Ticket.{Ticket}
use Rattle.session.specs.Session.{in_order, valid_session, Called, declined, settled, counted, accepted}
use Rattle.session.specs.Calls.{committed, edit, call_of, own_of, Tests, in_turn, tests_of, admission, admission_of, afterwards}
use Rattle.session.proofs.Ways.{call_refused, edit_joined}
use Rattle.session.specs.declared.Session.{Session}
use Rattle.commit.specs.Promised.{TypedParts, CommitIsTheEdit, CommitMerges, ShownIsCommitted, RefusedAskIsRefused}

-- a ticket that fits asks what the edit asks
pub commit_fits : CommitIsTheEdit
unfolding call_of
commit_fits t s m valid same =
    ap (λ (x : Tests). gate (in_turn x) (λ r. declined (number r) s m) (own_of (edit (committed t)) s m))
    (λ i. record { valid = valid_session s && (valid i && valid_envelope t.second); admission = admission_of s m; ticket = same i; step = true })

-- ---- the refusals, as the code has them

module _ (t : Ticket) (s : Session) (m : List ℕ) where
  -- 1 is for the session, and for both of the ticket
  abbrev valid : Bool
  valid = valid_session s && (valid_envelope t.first && valid_envelope t.second)

  pub commit_one : valid ≡ false → call_of (edit (committed t)) s m ≡ declined 1 s m
  commit_one h = call_refused (edit (committed t)) s m (first_fails valid NotValid _ h)

  -- what is asked of the memory comes before 14
  pub commit_refused : {r : Refusal} → valid ≡ true → first_failing (admission (admission_of s m)) ≡ Some r → call_of (edit (committed t)) s m ≡ declined (number r) s m
  commit_refused {r} h e =
      call_refused (edit (committed t)) s m (first_holds valid NotValid _ h ∙ stopped_at (admission (admission_of s m)) (afterwards (tests_of (edit (committed t)) s m)) r e)

  -- 14, where the ticket's first is valid and not the session's envelope
  pub commit_other : valid ≡ true → first_failing (admission (admission_of s m)) ≡ None → (valid_envelope t.first && bit_equal s.envelope t.first) ≡ false
      → call_of (edit (committed t)) s m ≡ declined 14 s m
  commit_other h e unfit =
      call_refused (edit (committed t)) s m
      (first_holds valid NotValid _ h
      ∙ passed_over (admission (admission_of s m)) (afterwards (tests_of (edit (committed t)) s m)) e
      ∙ first_fails (bit_equal s.envelope t.first) OtherEnvelope _ differs)
    where
      first_valid : valid_envelope t.first ≡ true
      first_valid = and_left (valid_envelope t.first) (valid_envelope t.second) (and_right (valid_session s) _ h)

      differs : bit_equal s.envelope t.first ≡ false
      differs = ap (λ (b : Bool). b && bit_equal s.envelope t.first) (sym first_valid) ∙ unfit

-- ---- an accepted commit

-- what an accepted edit leaves is what it made, also where that is bit-equal to the envelope before
module _ (s : Session) (m : List ℕ) (e : AutomationEnvelope) (same : bit_equal s.envelope e ≡ true → s.envelope ≡ e) where
  accepted_leaves : (b : Bool) → bit_equal s.envelope e ≡ b → (cond b (accepted s m) (counted s m e)).session.envelope ≡ e
  accepted_leaves true h = same h
  accepted_leaves false h = refl

-- the parts of what a commit says that was accepted
pub record Merged (t : Ticket) (s : Session) (x : Called) : Type 0 where
  pub said : (join_of (Merge t.offset) s.envelope t.second).said ≡ gives tt
  pub envelope : x.session.envelope ≡ (join_of (Merge t.offset) s.envelope t.second).envelope
  pub first : s.envelope ≡ t.first

module _ (t : Ticket) (s : Session) (m : List ℕ) (p : TypedParts t s) where
  abbrev tests : Tests
  tests = tests_of (edit (committed t)) s m

  abbrev made : EditTold
  made = join_of (Merge t.offset) s.envelope t.second

  first_is : valid_envelope s.envelope ≡ true → valid_envelope t.first ≡ true → bit_equal s.envelope t.first ≡ true → s.envelope ≡ t.first
  first_is v w same = bit_equal_same s.envelope t.first p.envelope p.first v w same

  made_is : valid_envelope s.envelope ≡ true → made.said ≡ gives tt → bit_equal s.envelope made.envelope ≡ true → s.envelope ≡ made.envelope
  made_is v said same =
      bit_equal_same s.envelope made.envelope p.envelope
      (join_typed (Merge t.offset) s.envelope t.second p.envelope p.second) v
      (join_valid (Merge t.offset) s.envelope t.second said) same

  own_merged : s.envelope ≡ t.first → valid_envelope s.envelope ≡ true → (y : Said (Unit {0})) → made.said ≡ y → (settled s m y made.envelope).said ≡ gives tt
      → Merged t s (settled s m y made.envelope)
  own_merged first v (refuses n) is h = never h
  own_merged first v (gives u) is h =
      record {
        said = is;
        envelope = accepted_leaves s m made.envelope (made_is v is) (bit_equal s.envelope made.envelope) refl;
        first = first;
      }

  tests_merged : first_failing (in_turn tests) ≡ None → (own_of (edit (committed t)) s m).said ≡ gives tt → Merged t s (own_of (edit (committed t)) s m)
  tests_merged passed h = own_merged (first_is v w same) v made.said refl h
    where
      all : every (λ c. c.holds) (in_turn tests) ≡ true
      all = all_hold (in_turn tests) passed

      session : valid_session s ≡ true
      session = and_left (valid_session s) _ (and_left tests.valid _ all)

      v : valid_envelope s.envelope ≡ true
      v = and_left (valid_envelope s.envelope) (in_order s) session

      w : valid_envelope t.first ≡ true
      w = and_left (valid_envelope t.first) (valid_envelope t.second) (and_right (valid_session s) _ (and_left tests.valid _ all))

      same : bit_equal s.envelope t.first ≡ true
      same = and_left tests.ticket _ (and_right tests.admission.length _ (and_right tests.valid _ all))

  gate_merged : (o : Option Refusal) → first_failing (in_turn tests) ≡ o
      → (unless_refused o (λ r. declined (number r) s m) (own_of (edit (committed t)) s m)).said ≡ gives tt
      → Merged t s (unless_refused o (λ r. declined (number r) s m) (own_of (edit (committed t)) s m))
  gate_merged None e h = tests_merged e h
  gate_merged (Some r) e h = never h

  call_merged : (call_of (edit (committed t)) s m).said ≡ gives tt → Merged t s (call_of (edit (committed t)) s m)
  unfolding call_of
  call_merged h = gate_merged (first_failing (in_turn tests)) refl h

pub commit_merges : CommitMerges
commit_merges t s m a s' m' p ob h =
    let x = call_merged t s m p (ap (λ (c : Called). c.said) (sym ob) ∙ h) in
    ap (λ (e : AutomationEnvelope). join_of (Merge t.offset) e t.second) (sym x.first)
    ∙ (λ i. record { said = x.said i; envelope = (sym x.envelope ∙ ap (λ (c : Called). c.session.envelope) (sym ob)) i })

pub shown_committed : ShownIsCommitted
unfolding ask_of
shown_committed t s m a s' m' p ob h = ap count_said (commit_merges t s m a s' m' p ob h)

-- ---- the ticket of a refused ask

-- an ask that is refused has its refusal from the merge
count_refused : (y : Said (Unit {0})) (k n : ℕ) → count_if y k ≡ refuses n → y ≡ refuses n
count_refused (refuses j) k n h = let same : j ≡ n = cc in ap refuses same
count_refused (gives u) k n h = never (sym h)

-- what a merge says of the session's envelope it says of the ticket's first
says_refused : (t : Ticket) (s : Session) (n : ℕ) → (ask_of t.first t.second t.offset).said ≡ refuses n → s.envelope ≡ t.first
    → (join_of (Merge t.offset) s.envelope t.second).said ≡ refuses n
unfolding ask_of
says_refused t s n asked first = ap (λ (e : AutomationEnvelope). (join_of (Merge t.offset) e t.second).said) first ∙ count_refused _ _ n asked

admits : (s : Session) (m : List ℕ) → length m ≡ s.length → first_failing (admission (admission_of s m)) ≡ None
unfolding first_failing
admits s m h = first_holds (eqb (length m) s.length) MemoryLength [] (eq-eqb (length m) s.length h)

pub refused_ask : RefusedAskIsRefused
refused_ask t s m n asked valid words first =
    commit_fits t s m (ap valid_envelope (sym first) ∙ and_left (valid_envelope s.envelope) (in_order s) valid)
    (ap (bit_equal s.envelope) (sym first) ∙ bit_equal_self s.envelope)
    ∙ edit_joined s m (and_right (valid_envelope s.envelope) (in_order s) valid) (admits s m words) (Merge t.offset) t.second
    ∙ ap (λ (y : Said (Unit {0})). settled s m y (join_of (Merge t.offset) s.envelope t.second).envelope) (says_refused t s n asked first)
