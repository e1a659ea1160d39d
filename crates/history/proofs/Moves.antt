-- A step back and a step forward, as the rule and as the contracts have them. Assumes nothing.
use Rattle.std.specs.Prelude.{None, Some}
use Prim.Native.Nat.{ℕ, ◌+◌, ◌-◌, ◌*◌, ◌/◌, ◌%◌, ◌≤◌, ◌<◌}
use mathlib.Core.Path.{◌≡◌, refl, ap, sym, ◌∙◌}
use mathlib.Core.List.{List}
use mathlib.Core.Logic.{⊎_elim}
use native.Mathlib.Nat.{mod-lt}
use native.Mathlib.Omega.{arith}
use lib.ListN.{length, get_or}
use borrow.Author.Tests.{ltb-true}
use Rattle.points.specs.Checks.{first_failing}
use Rattle.points.specs.Refusal.{gives}
use Rattle.envelope.specs.declared.AutomationEnvelope.{AutomationEnvelope}
use Rattle.state.specs.State.{state_words, pack, unpacked}
use Rattle.state.proofs.StateLaws.{unpacked_pack, slot_fits}
use Rattle.session.specs.Session.{states_in, state_at, stored, slot_after, slot_before, moved_to, exchanged, stepped_over, accepted}
use Rattle.session.proofs.Slots.{lt_or_le, length-stored, stored_same, stored_other, word_other, slots_differ, after_slot, before_slot}
use Rattle.session.specs.Calls.{back, forward, in_turn, call_of}
use Rattle.session.specs.declared.Session.{Session}
use Rattle.history.specs.Rule.{Hist, up_to, stepped_back, stepped_forward, rule_tests}
use Rattle.history.specs.After.{Holds}
use Rattle.history.proofs.Steps.{Inv, CallStep, stands, states, envelope_words, rule_by, calls_by}

module _ (start : AutomationEnvelope) (d : ℕ) (h : Hist) (s : Session) (m : List ℕ) (v : Inv start d h s m) where
  -- ---- a step over edit j, whose slot is p: the session's envelope and the state in the slot change places
  module _ (j p : ℕ) (pos : 0 < d) (slot : p ≡ j % d) where
    p_fits : p * state_words + state_words ≤ length m
    p_fits = slot_fits p (length m) (rw (← v.d_is, slot) (mod-lt j pos))

    put_at : state_at (stored p (pack s.envelope) m) (j % d) ≡ pack (up_to start h h.mark)
    put_at =
        ap (state_at (stored p (pack s.envelope) m)) (sym slot) ∙ stored_same m p (pack s.envelope) (envelope_words start d h s m v) p_fits ∙ ap pack v.envelope

    put_not : (k : ℕ) → (k ≡ j → ⊥) → j < k + d → k < j + d
        → state_at (stored p (pack s.envelope) m) (k % d) ≡ state_at m (k % d)
    put_not k n a b = stored_other m p (pack s.envelope) (envelope_words start d h s m v) p_fits (k % d) (λ e. slots_differ k j d n a b (e ∙ slot))

    put_length : length (stored p (pack s.envelope) m) ≡ length m
    put_length = length-stored m p (pack s.envelope) (envelope_words start d h s m v) p_fits

    put_stays : (i : ℕ) → (i / state_words ≡ j % d → ⊥) → get_or (stored p (pack s.envelope) m) i 0 ≡ get_or m i 0
    put_stays i n = word_other m p (pack s.envelope) (envelope_words start d h s m v) p_fits i (λ e. n (e ∙ slot))

    reads : (k : ℕ) → k ≤ length h.edits → state_at m (j % d) ≡ pack (up_to start h k) → unpacked (state_at m p) ≡ Some (up_to start h k)
    reads k l e =
        ap (λ (n : ℕ). unpacked (state_at m n)) slot ∙ ap unpacked e ∙ unpacked_pack (up_to start h k) (v.in_range k l) (v.valid k l)

    stepped : (k at kept ahead : ℕ) → unpacked (state_at m p) ≡ Some (up_to start h k)
        → stepped_over s m p at kept ahead ≡ accepted (moved_to s (up_to start h k) at kept ahead) (stored p (pack s.envelope) m)
    stepped k at kept ahead e = ap (exchanged s m p (λ f. moved_to s f at kept ahead)) e

  module _ (passed : first_failing (in_turn (rule_tests start h back)) ≡ None) where
    q : 0 < h.kept
    q = ltb-true 0 h.kept (stands (rule_tests start h back) passed)

    pos_b : 0 < d
    pos_b = omega (arith, q)

    abbrev hb : Hist
    hb = stepped_back h

    abbrev pb : ℕ
    pb = slot_before d s.at

    slot_b : pb ≡ (h.mark - 1) % d
    slot_b =
        let e : h.mark ≡ h.mark - 1 + 1 = omega (arith, q) in
        ap (slot_before d) (v.at_slot pos_b ∙ ap (λ (n : ℕ). n % d) e) ∙ before_slot (h.mark - 1) d pos_b

    read_b : unpacked (state_at m pb) ≡ Some (up_to start h (h.mark - 1))
    read_b = reads (h.mark - 1) pb pos_b slot_b (h.mark - 1) (omega (arith, q)) (v.holds.before (h.mark - 1) (omega (arith, q)) (omega (arith, q)))

    abbrev sb : Session
    sb = moved_to s (up_to start h (h.mark - 1)) pb (s.kept - 1) (s.ahead + 1)

    abbrev mb : List ℕ
    mb = stored pb (pack s.envelope) m

    holds_b : Holds start d hb mb
    unfolding up_to
    holds_b =
        record {
          before = λ k a b.
              put_not (h.mark - 1) pb pos_b slot_b k (omega (arith, q)) (omega (arith, q)) (omega (arith, q)) ∙ v.holds.before k (omega (arith, q)) (omega (arith, q));
          after = λ k a b.
              ⊎_elim
              (λ (l : k < h.mark).
              let e : h.mark - 1 ≡ k = omega (arith, q) in
              let f : h.mark ≡ k + 1 = omega (arith, q) in
              ap (λ (n : ℕ). state_at mb (n % d)) (sym e) ∙ put_at (h.mark - 1) pb pos_b slot_b ∙ ap (λ (n : ℕ). pack (up_to start h n)) f)
              (λ (l : h.mark ≤ k).
              put_not (h.mark - 1) pb pos_b slot_b k (omega (arith, q)) (omega (arith, q)) (omega (arith, q)) ∙ v.holds.after k l b)
              (lt_or_le k h.mark);
        }

    inv_b : Inv start d hb sb mb
    unfolding up_to
    inv_b =
        record {
          words = v.words ∙ sym (put_length (h.mark - 1) pb pos_b slot_b);
          d_is = v.d_is ∙ ap states_in (sym (put_length (h.mark - 1) pb pos_b slot_b));
          envelope = refl;
          kept = ap (λ (n : ℕ). n - 1) v.kept;
          ahead = omega (arith, q);
          kept_le = omega (arith, q);
          room = omega (arith, q);
          at_zero = λ e. absurd (omega (arith, pos_b));
          at_slot = λ x. slot_b;
          valid = v.valid;
          in_range = v.in_range;
          alters = v.alters;
          holds = holds_b;
        }

    calls_b : call_of back s m ≡ accepted sb mb
    calls_b =
        calls_by start d h s m v back None passed
        ∙ rw (states start d h s m v) (stepped (h.mark - 1) pb pos_b slot_b (h.mark - 1) pb (s.kept - 1) (s.ahead + 1) read_b)

    pub yes_back : CallStep start d h s m back
    yes_back =
        record {
          answer = gives tt;
          hist = hb;
          session = sb;
          memory = mb;
          rule = rule_by start d h s m v back None passed;
          calls = calls_b;
          inv = λ t. inv_b;
          lent = put_length (h.mark - 1) pb pos_b slot_b;
          stays = λ i out. put_stays (h.mark - 1) pb pos_b slot_b i (out (h.mark - 1) (omega (arith, q)) (omega (arith, q)));
        }

  module _ (passed : first_failing (in_turn (rule_tests start h forward)) ≡ None) where
    q' : 0 < s.ahead
    q' = omega (arith, ltb-true h.mark (length h.edits) (stands (rule_tests start h forward) passed))

    pos_f : 0 < d
    pos_f = omega (arith, q')

    abbrev hf : Hist
    hf = stepped_forward h

    read_f : unpacked (state_at m s.at) ≡ Some (up_to start h (h.mark + 1))
    read_f =
        reads h.mark s.at pos_f (v.at_slot pos_f) (h.mark + 1) (omega (arith, q')) (v.holds.after h.mark (omega (arith, q')) (omega (arith, q')))

    abbrev sf : Session
    sf = moved_to s (up_to start h (h.mark + 1)) (slot_after d s.at) (s.kept + 1) (s.ahead - 1)

    abbrev mf : List ℕ
    mf = stored s.at (pack s.envelope) m

    holds_f : Holds start d hf mf
    unfolding up_to
    holds_f =
        record {
          before = λ k a b.
              ⊎_elim
              (λ (l : k < h.mark).
              put_not h.mark s.at pos_f (v.at_slot pos_f) k (omega (arith, q')) (omega (arith, q')) (omega (arith, q'))
              ∙ v.holds.before k (omega (arith, q')) l)
              (λ (l : h.mark ≤ k).
              let e : h.mark ≡ k = omega (arith, q') in
              ap (λ (n : ℕ). state_at mf (n % d)) (sym e) ∙ put_at h.mark s.at pos_f (v.at_slot pos_f)
              ∙ ap (λ (n : ℕ). pack (up_to start h n)) e)
              (lt_or_le k h.mark);
          after = λ k a b.
              put_not h.mark s.at pos_f (v.at_slot pos_f) k (omega (arith, q')) (omega (arith, q')) (omega (arith, q'))
              ∙ v.holds.after k (omega (arith, q')) b;
        }

    inv_f : Inv start d hf sf mf
    unfolding up_to
    inv_f =
        record {
          words = v.words ∙ sym (put_length h.mark s.at pos_f (v.at_slot pos_f));
          d_is = v.d_is ∙ ap states_in (sym (put_length h.mark s.at pos_f (v.at_slot pos_f)));
          envelope = refl;
          kept = ap (λ (n : ℕ). n + 1) v.kept;
          ahead = omega (arith, q');
          kept_le = omega (arith, q');
          room = omega (arith, q');
          at_zero = λ e. absurd (omega (arith, pos_f));
          at_slot = λ x. ap (slot_after d) (v.at_slot pos_f) ∙ after_slot h.mark d pos_f;
          valid = v.valid;
          in_range = v.in_range;
          alters = v.alters;
          holds = holds_f;
        }

    calls_f : call_of forward s m ≡ accepted sf mf
    calls_f =
        calls_by start d h s m v forward None passed
        ∙ rw (states start d h s m v) (stepped h.mark s.at pos_f (v.at_slot pos_f) (h.mark + 1) (slot_after d s.at) (s.kept + 1) (s.ahead - 1) read_f)

    pub yes_forward : CallStep start d h s m forward
    yes_forward =
        record {
          answer = gives tt;
          hist = hf;
          session = sf;
          memory = mf;
          rule = rule_by start d h s m v forward None passed;
          calls = calls_f;
          inv = λ t. inv_f;
          lent = put_length h.mark s.at pos_f (v.at_slot pos_f);
          stays = λ i out. put_stays h.mark s.at pos_f (v.at_slot pos_f) i (out h.mark (omega (arith, q')) (omega (arith, q')));
        }
