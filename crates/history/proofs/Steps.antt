-- What a session keeps from one call to the next: the rule's history against the session and its memory. Assumes nothing.
use Rattle.std.specs.Prelude.{None, Option, Some}
use Prim.Native.Nat.{ℕ, ◌+◌, ◌*◌, ◌%◌, ◌≤◌, ◌<◌}
use mathlib.Core.Path.{◌≡◌, refl, ap, sym, ◌∙◌}
use mathlib.Core.List.{List, [], ◌∷◌, ◌++◌}
use mathlib.Core.Bool.{true, false, ◌&&◌}
use mathlib.Core.Logic.{⊎_elim}
use native.Mathlib.Nat.{mod-lt, eq-zero-or-pos}
use native.Mathlib.Omega.{arith}
use lib.Dec.{ltb}
use lib.ListN.{length, get_or}
use borrow.Author.Tests.{lt-ltb, le-ltb, le-leb, eq-eqb, ne_eqb}
use Rattle.numbers.proofs.Tests.{and_left, and_right}
use Rattle.points.specs.Checks.{first_failing, unless_refused}
use Rattle.points.proofs.CheckLaws.{all_hold}
use Rattle.points.specs.Refusal.{Said, refuses, number}
use Rattle.points.specs.declared.refusal.Refusal.{Refusal}
use Rattle.envelope.specs.Envelope.{valid_envelope}
use Rattle.envelope.specs.Typed.{typed}
use Rattle.envelope.specs.declared.AutomationEnvelope.{AutomationEnvelope}
use Rattle.equal.specs.Equal.{bit_equal}
use Rattle.state.specs.State.{state_words, pack}
use Rattle.state.proofs.StateLaws.{length-pack, slot_fits}
use Rattle.session.specs.Session.{states_in, depth, place_below, in_order, valid_session, declined}
use Rattle.session.specs.Calls.{Entry, made_by, Call, edit, back, forward, call_valid, call_fits, step_stands, Tests, in_turn, tests_of, own_of, call_of}
use Rattle.session.specs.declared.Session.{Session}
use Rattle.history.specs.Rule.{Hist, made, up_to, rule_refuses, stands_in, rule_tests, ruled, rule_of}
use Rattle.history.specs.After.{Holds, Outside, place_of, typed_call}

-- the rule's history against the session and the memory that it runs on
pub record Inv (start : AutomationEnvelope) (d : ℕ) (h : Hist) (s : Session) (m : List ℕ) : Type 0 where
  pub words : s.length ≡ length m
  pub d_is : d ≡ states_in (length m)
  pub envelope : s.envelope ≡ up_to start h h.mark
  pub kept : s.kept ≡ h.kept
  pub ahead : s.ahead + h.mark ≡ length h.edits
  pub kept_le : h.kept ≤ h.mark
  pub room : h.kept + s.ahead ≤ d
  pub at_zero : d ≡ 0 → s.at ≡ 0
  pub at_slot : 0 < d → s.at ≡ h.mark % d
  pub valid : (k : ℕ) → k ≤ length h.edits → valid_envelope (up_to start h k) ≡ true
  pub in_range : (k : ℕ) → k ≤ length h.edits → typed (up_to start h k) ≡ true
  pub alters : (k : ℕ) → k < length h.edits → bit_equal (up_to start h k) (up_to start h (k + 1)) ≡ false
  pub holds : Holds start d h m

pub made_snoc : (xs : List Entry) (x : Entry) (e : AutomationEnvelope) → made (xs ++ (x ∷ [])) e ≡ (made_by x (made xs e)).envelope
unfolding made
made_snoc [] x e = refl
made_snoc (y ∷ xs) x e = made_snoc xs x (made_by y e).envelope

-- what one call does, as the rule and as the contracts have it
pub record CallStep (start : AutomationEnvelope) (d : ℕ) (h : Hist) (s : Session) (m : List ℕ) (c : Call) : Type 0 where
  pub answer : Said (Unit {0})
  pub hist : Hist
  pub session : Session
  pub memory : List ℕ
  pub rule : rule_of start d h c ≡ record { said = answer; hist = hist }
  pub calls : call_of c s m ≡ record { said = answer; session = session; memory = memory }
  pub inv : typed_call c ≡ true → Inv start d hist session memory
  pub lent : length memory ≡ length m
  pub stays : (i : ℕ) → Outside d hist i → get_or memory i 0 ≡ get_or m i 0

module _ (start : AutomationEnvelope) (d : ℕ) (h : Hist) (s : Session) (m : List ℕ) (v : Inv start d h s m) where
  pub states : depth s ≡ d
  states = ap states_in v.words ∙ sym v.d_is

  pub envelope_valid : valid_envelope s.envelope ≡ true
  envelope_valid = ap valid_envelope v.envelope ∙ v.valid h.mark (omega arith)

  pub envelope_typed : typed s.envelope ≡ true
  envelope_typed = ap typed v.envelope ∙ v.in_range h.mark (omega arith)

  pub envelope_words : length (pack s.envelope) ≡ state_words
  envelope_words = length-pack s.envelope envelope_typed

  place : place_below s.at d ≡ true
  place =
      ⊎_elim (λ (z : d ≡ 0). rw (eq-eqb d 0 z, eq-eqb s.at 0 (v.at_zero z)))
      (λ (p : 0 < d). rw (ne_eqb d 0 (omega arith)) (lt-ltb s.at d (rw (v.at_slot p) (mod-lt h.mark p)))) (eq-zero-or-pos d)

  ordered : in_order s ≡ true
  unfolding in_order
  ordered = rw (states, le-leb (s.kept + s.ahead) d (omega arith)) place

  pub session_valid : valid_session s ≡ true
  session_valid = λ i. envelope_valid i && ordered i

  pub marks : h.mark ≤ length h.edits
  marks = omega arith

  -- the session's place
  pub place_is : s.at ≡ place_of d h
  place_is = ⊎_elim (λ (z : d ≡ 0). v.at_zero z ∙ rw (eq-eqb d 0 z)) (λ (p : 0 < d). v.at_slot p ∙ rw (ne_eqb d 0 (omega arith))) (eq-zero-or-pos d)

  -- the slot at the mark lies in the memory
  pub at_fits : 0 < d → s.at * state_words + state_words ≤ length m
  at_fits p = slot_fits s.at (length m) (rw (← v.d_is, v.at_slot p) (mod-lt h.mark p))

  -- ---- the session's tests are the rule's

  stands_is : (c : Call) → step_stands c s ≡ stands_in h c
  stands_is (edit x) = refl
  stands_is back = ap (ltb 0) v.kept
  stands_is forward =
      ⊎_elim (λ (z : s.ahead ≡ 0). rw z (sym (le-ltb h.mark (length h.edits) (omega arith))))
      (λ (p : 0 < s.ahead). lt-ltb 0 s.ahead p ∙ sym (lt-ltb h.mark (length h.edits) (omega arith))) (eq-zero-or-pos s.ahead)

  tests_agree : (c : Call) → tests_of c s m ≡ rule_tests start h c
  tests_agree c =
      λ i. record {
        valid = session_valid i && call_valid c;
        admission = record { length = eq-eqb (length m) s.length (sym v.words) i };
        ticket = call_fits c (v.envelope i);
        step = stands_is c i;
      }

  -- a call by what becomes of its tests
  module _ (c : Call) (o : Option Refusal) (e : first_failing (in_turn (rule_tests start h c)) ≡ o) where
    pub rule_by : rule_of start d h c ≡ unless_refused o (λ r. rule_refuses (number r) h) (ruled start d h c)
    unfolding rule_of
    rule_by = ap (λ (p : Option Refusal). unless_refused p (λ r. rule_refuses (number r) h) (ruled start d h c)) e

    pub calls_by : call_of c s m ≡ unless_refused o (λ r. declined (number r) s m) (own_of c s m)
    unfolding call_of
    calls_by =
        ap (λ (p : Option Refusal). unless_refused p (λ r. declined (number r) s m) (own_of c s m))
        (ap (λ (t : Tests). first_failing (in_turn t)) (tests_agree c) ∙ e)

  -- one that a test refuses
  pub refused_call : (c : Call) (r : Refusal) → first_failing (in_turn (rule_tests start h c)) ≡ Some r → CallStep start d h s m c
  refused_call c r e =
      record {
        answer = refuses (number r);
        hist = h;
        session = s;
        memory = m;
        rule = rule_by c (Some r) e;
        calls = calls_by c (Some r) e;
        inv = λ t. v;
        lent = refl;
        stays = λ i out. refl;
      }

-- where none fails a step stands
pub stands : (t : Tests) → first_failing (in_turn t) ≡ None → t.step ≡ true
stands t h = and_left t.step _ (and_right t.ticket _ (and_right t.admission.length _ (and_right t.valid _ (all_hold (in_turn t) h))))
