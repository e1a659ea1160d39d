-- The ways out of the session's functions, each as a law over plain variables: the functions' proofs cite these. Assumes nothing.
use Rattle.std.proofs.Common.{◌≡◌, ℕ, ◌+◌, ◌-◌, ◌*◌, ◌/◌, ◌≤◌, ◌<◌, min, max, Bool, true, false, ◌&&◌, leb, ltb, eqb, List, [], ◌∷◌, ◌++◌, length, drop, take, None, Option, Some, refl, ap, sym, ◌∙◌, arith}
use Rattle.std.proofs.lemmas.Bool.Decides.{nat_tests}
use Rattle.std.proofs.lemmas.List.{append-nil, length-take, length-drop, drop-drop, drop_all}
use borrow.Rule.Slice.PartMut.{put_mid}
use Rattle.envelope.specs.declared.AutomationEnvelope.{AutomationEnvelope}
use Rattle.points.specs.Refusal.{Said, refuses, gives, said, number}
use Rattle.points.specs.Points.{every}
use Rattle.points.specs.Checks.{or_else, first_failing, unless_refused}
use Rattle.points.specs.declared.refusal.Refusal.{Refusal}
use Rattle.points.specs.declared.refusal.Refusal.TheVariants.{NotValid, NoStep, OtherEnvelope}
use Rattle.points.proofs.CheckLaws.{first_holds, first_fails, all_hold, passed_over, stopped_at, never}
use Rattle.envelope.specs.Envelope.{valid_envelope}
use mathlib.Core.Bool.{and-true, and-false}
use Rattle.numbers.proofs.Tests.{and_left, and_right}
use Rattle.envelope.specs.Edit.{edit_of, join_of}
use Rattle.envelope.specs.declared.edit.Edit.{Edit}
use Rattle.envelope.specs.declared.edit.Join.{Join}
use Rattle.envelope.proofs.EditLaws.{edit_one}
use Rattle.envelope.proofs.JoinLaws.{join_one}
use Rattle.state.specs.State.{pack, unpacked, read_as, read_state, state_over}
use Rattle.session.specs.Session.{slot_after, slot_before, place_below, state_at, stored, depth, in_order, valid_session, declined, accepted, moved_to, settled, exchanged, stepped_over}
use Rattle.session.specs.Calls.{Entry, alone, joined, made_by, back, forward, Tests, step_tests, others_valid, fits_ticket, Call, edit, admission, admission_of, afterwards, in_turn, tests_of, own_of, call_of}
use Rattle.session.specs.declared.Session.{Session}
use borrow.Author.Tests.{le-ltb, ltb-true, eqb-true}

-- the place's test
pub place_is : (at d : ℕ) → ltb at (max d 1) ≡ place_below at d
place_is at d = grind (arith, nat_tests)

pub order_is : (k a at d : ℕ) → d < 18446744073709551615 → (leb (min (k + a) 18446744073709551615) d && ltb at (max d 1)) ≡ (leb (k + a) d && place_below at d)
order_is k a at d h = grind (arith, nat_tests)

-- a session in order: its place can be followed, and the part of a slot
pub order_room : (s : Session) → in_order s ≡ true → s.kept + s.ahead ≤ s.length / 1028
unfolding in_order
order_room s h = grind (arith, nat_tests)

pub order_at : (s : Session) → in_order s ≡ true → s.at ≤ s.length / 1028
unfolding in_order
order_at s h = grind (arith, nat_tests)

pub order_below : (s : Session) → in_order s ≡ true → 0 < s.length / 1028 → s.at < s.length / 1028
unfolding in_order
order_below s h p = grind (arith, nat_tests)

-- a slot's part of the memory
part_words : (k : ℕ) → k * 1028 + 1028 - k * 1028 ≡ 1028
part_words k = omega arith

pub slot_part : (k : ℕ) (m : List ℕ) → take (k * 1028 + 1028 - k * 1028) (drop (k * 1028) m) ≡ state_at m k
unfolding state_at
slot_part k m = ap (λ (n : ℕ). take n (drop (k * 1028) m)) (part_words k)

-- a state over 1,028 words is all of them
part_written : (e : AutomationEnvelope) (part : List ℕ) → length part ≡ 1028 → state_over e part ≡ pack e
unfolding state_over
part_written e part h = rw (le-ltb (length part) 1028 (omega (arith, h))) (ap (λ (l : List ℕ). pack e ++ l) (drop_all 1028 part (omega (arith, h))) ∙ append-nil (pack e))

pub slot_stored : (k : ℕ) (e : AutomationEnvelope) (m new : List ℕ) → k * 1028 + 1028 ≤ length m → new ≡ state_over e (take (k * 1028 + 1028 - k * 1028) (drop (k * 1028) m))
    → put_mid (k * 1028) (k * 1028 + 1028 - k * 1028) m new ≡ stored k (pack e) m
unfolding stored
slot_stored k e m new h is =
    (λ j. take (k * 1028) m ++ ((is ∙ part_written e _ (simp (length-take, length-drop) (omega arith))) j ++ drop (part_words k j) (drop (k * 1028) m)))
    ∙ ap (λ (l : List ℕ). take (k * 1028) m ++ (pack e ++ l)) (drop-drop 1028 (k * 1028) m)

-- ---- a call by its tests

module _ (c : Call) (s : Session) (m : List ℕ) where
  pub call_refused : {r : Refusal} → first_failing (in_turn (tests_of c s m)) ≡ Some r → call_of c s m ≡ declined (number r) s m
  unfolding call_of
  call_refused h = ap (λ (o : Option Refusal). unless_refused o (λ r. declined (number r) s m) (own_of c s m)) h

  pub call_passed : first_failing (in_turn (tests_of c s m)) ≡ None → call_of c s m ≡ own_of c s m
  unfolding call_of
  call_passed h = ap (λ (o : Option Refusal). unless_refused o (λ r. declined (number r) s m) (own_of c s m)) h

first_none : first_failing [] ≡ None
unfolding first_failing
first_none = refl

-- ---- an edit: its own 1 is the session's too, so the envelope's validity is tested once

module _ (x : Entry) (s : Session) (m : List ℕ) where
  -- the validity of both envelopes
  abbrev both_valid : Bool
  both_valid = valid_envelope s.envelope && others_valid x

  valid_is : in_order s ≡ true → (valid_session s && others_valid x) ≡ both_valid
  valid_is h = ap (λ (b : Bool). (valid_envelope s.envelope && b) && others_valid x) h ∙ ap (λ (b : Bool). b && others_valid x) (and-true (valid_envelope s.envelope))

  one : (valid_session s && others_valid x) ≡ false → call_of (edit x) s m ≡ declined 1 s m
  one h = call_refused (edit x) s m (first_fails (valid_session s && others_valid x) NotValid _ h)

  pub edit_order : in_order s ≡ false → call_of (edit x) s m ≡ declined 1 s m
  edit_order h = one (ap (λ (b : Bool). (valid_envelope s.envelope && b) && others_valid x) h ∙ ap (λ (b : Bool). b && others_valid x) (and-false (valid_envelope s.envelope)))

  -- what the memory gives, but 1 for either envelope first
  pub edit_refused : {r : Refusal} → in_order s ≡ true → first_failing (admission (admission_of s m)) ≡ Some r → both_valid ≡ true → call_of (edit x) s m ≡ declined (number r) s m
  edit_refused {r} h e v =
      call_refused (edit x) s m
      (first_holds (valid_session s && others_valid x) NotValid _ (valid_is h ∙ v) ∙ stopped_at (admission (admission_of s m)) (afterwards (tests_of (edit x) s m)) r e)

  pub edit_one_first : in_order s ≡ true → both_valid ≡ false → call_of (edit x) s m ≡ declined 1 s m
  edit_one_first h v = one (valid_is h ∙ v)

  -- else what the edit says and makes
  edit_own : fits_ticket x s.envelope ≡ true → (both_valid ≡ false → (made_by x s.envelope).said ≡ refuses 1) → in_order s ≡ true
      → first_failing (admission (admission_of s m)) ≡ None → call_of (edit x) s m ≡ settled s m (made_by x s.envelope).said (made_by x s.envelope).envelope
  edit_own fit own_one h e = go both_valid refl
    where
      passes : both_valid ≡ true → first_failing (in_turn (tests_of (edit x) s m)) ≡ None
      passes p =
          first_holds (valid_session s && others_valid x) NotValid (admission (admission_of s m) ++ afterwards (tests_of (edit x) s m)) (valid_is h ∙ p)
          ∙ passed_over (admission (admission_of s m)) (afterwards (tests_of (edit x) s m)) e
          ∙ first_holds (fits_ticket x s.envelope) OtherEnvelope (or_else true NoStep ∷ []) fit
          ∙ first_holds true NoStep [] refl
          ∙ first_none

      go : (b : Bool) → both_valid ≡ b → call_of (edit x) s m ≡ settled s m (made_by x s.envelope).said (made_by x s.envelope).envelope
      go true p = call_passed (edit x) s m (passes p)
      go false p = one (valid_is h ∙ p) ∙ ap (λ (y : Said (Unit {0})). settled s m y (made_by x s.envelope).envelope) (sym (own_one p))

module _ (s : Session) (m : List ℕ) (h : in_order s ≡ true) (e : first_failing (admission (admission_of s m)) ≡ None) where
  pub edit_alone : (d : Edit) → call_of (edit (alone d)) s m ≡ settled s m (edit_of d s.envelope).said (edit_of d s.envelope).envelope
  edit_alone d = edit_own (alone d) s m refl (λ p. edit_one d s.envelope (sym (and-true (valid_envelope s.envelope)) ∙ p)) h e

  pub edit_joined : (j : Join) (other : AutomationEnvelope) → call_of (edit (joined j other)) s m ≡ settled s m (join_of j s.envelope other).said (join_of j s.envelope other).envelope
  edit_joined j other = edit_own (joined j other) s m refl (join_one j s.envelope other) h e

-- a memory of the length at opening
pub admitted_length : (s : Session) (m : List ℕ) → first_failing (admission (admission_of s m)) ≡ None → length m ≡ s.length
admitted_length s m h = eqb-true (length m) s.length (and_left (eqb (length m) s.length) _ (all_hold (admission (admission_of s m)) h))

-- ---- a step

-- what stands in slot k, as it is read
module _ (s : Session) (m : List ℕ) (k at kept ahead : ℕ) where
  pub stepped_bad : (n : ℕ) → read_state (state_at m k) ≡ refuses n → stepped_over s m k at kept ahead ≡ declined n s m
  unfolding read_state
  stepped_bad n h = go (unpacked (state_at m k)) h
    where
      go : (u : Option AutomationEnvelope) → read_as u ≡ refuses n → exchanged s m k (λ e. moved_to s e at kept ahead) u ≡ declined n s m
      go None h = let same : 12 ≡ n = cc in ap (λ (n : ℕ). declined n s m) same
      go (Some e) h = never (sym h)

  pub stepped_done : (e : AutomationEnvelope) → read_state (state_at m k) ≡ gives e → stepped_over s m k at kept ahead ≡ accepted (moved_to s e at kept ahead) (stored k (pack s.envelope) m)
  unfolding read_state
  stepped_done e h = go (unpacked (state_at m k)) h
    where
      go : (u : Option AutomationEnvelope) → read_as u ≡ gives e → exchanged s m k (λ e. moved_to s e at kept ahead) u ≡ accepted (moved_to s e at kept ahead) (stored k (pack s.envelope) m)
      go None h = never h
      go (Some f) h = let same : f ≡ e = cc in ap (λ (e : AutomationEnvelope). accepted (moved_to s e at kept ahead) (stored k (pack s.envelope) m)) same

-- a step by its tests
module _ (s : Session) (m : List ℕ) (n : ℕ) (h : first_failing (in_turn (step_tests s m n)) ≡ None) where
  parts : every (λ c. c.holds) (in_turn (step_tests s m n)) ≡ true
  parts = all_hold (in_turn (step_tests s m n)) h

  pub step_ordered : in_order s ≡ true
  step_ordered = and_right (valid_envelope s.envelope) (in_order s) (and_left (valid_session s) _ parts)

  step_words : length m ≡ s.length
  step_words = eqb-true (length m) s.length (and_left (eqb (length m) s.length) _ (and_right (valid_session s) _ parts))

  pub step_stands : 0 < n
  step_stands = ltb-true 0 n (and_left (ltb 0 n) _ (and_right true _ (and_right (eqb (length m) s.length) _ (and_right (valid_session s) _ parts))))

  pub step_room : (0 < n) × (s.kept + s.ahead ≤ s.length / 1028) × (length m ≡ s.length)
  step_room = (step_stands, order_room s step_ordered, step_words)

module _ (s : Session) (m : List ℕ) where
  back_tests : tests_of back s m ≡ step_tests s m s.kept
  back_tests = λ i. record { valid = and-true (valid_session s) i; admission = admission_of s m; ticket = true; step = ltb 0 s.kept }

  forward_tests : tests_of forward s m ≡ step_tests s m s.ahead
  forward_tests = λ i. record { valid = and-true (valid_session s) i; admission = admission_of s m; ticket = true; step = ltb 0 s.ahead }

  pub back_refused : {r : Refusal} → first_failing (in_turn (step_tests s m s.kept)) ≡ Some r → call_of back s m ≡ declined (number r) s m
  back_refused h = call_refused back s m (ap (λ (t : Tests). first_failing (in_turn t)) back_tests ∙ h)

  pub forward_refused : {r : Refusal} → first_failing (in_turn (step_tests s m s.ahead)) ≡ Some r → call_of forward s m ≡ declined (number r) s m
  forward_refused h = call_refused forward s m (ap (λ (t : Tests). first_failing (in_turn t)) forward_tests ∙ h)

  module _ (h : first_failing (in_turn (step_tests s m s.kept)) ≡ None) where
    pub back_passed : call_of back s m ≡ stepped_over s m (slot_before (depth s) s.at) (slot_before (depth s) s.at) (s.kept - 1) (s.ahead + 1)
    back_passed = call_passed back s m (ap (λ (t : Tests). first_failing (in_turn t)) back_tests ∙ h)

    -- its slot lies in the memory
    pub back_fits : slot_before (depth s) s.at * 1028 + 1028 ≤ length m
    unfolding slot_before
    back_fits = let r = step_room s m s.kept h in let a = order_at s (step_ordered s m s.kept h) in let b = order_below s (step_ordered s m s.kept h) in grind (arith, nat_tests)

  module _ (h : first_failing (in_turn (step_tests s m s.ahead)) ≡ None) where
    pub forward_passed : call_of forward s m ≡ stepped_over s m s.at (slot_after (depth s) s.at) (s.kept + 1) (s.ahead - 1)
    forward_passed = call_passed forward s m (ap (λ (t : Tests). first_failing (in_turn t)) forward_tests ∙ h)

    pub forward_fits : s.at * 1028 + 1028 ≤ length m
    forward_fits = let r = step_room s m s.ahead h in let b = order_below s (step_ordered s m s.ahead h) in grind (arith, nat_tests)

-- ---- what the goals of a function ask of these laws

pub ruleset editing = (edit_order, edit_refused, edit_one_first, edit_alone, edit_joined, admitted_length)

pub ruleset stepping_back = (step_room, back_fits, back_refused, back_passed, stepped_bad, stepped_done)

pub ruleset stepping_forward = (step_room, step_ordered, forward_fits, forward_refused, forward_passed, stepped_bad, stepped_done)
