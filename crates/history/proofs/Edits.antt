-- An edit, as the rule and as the contracts have it. Assumes nothing.
use Rattle.std.specs.Prelude.{None}
use Prim.Native.Nat.{ℕ, ◌+◌, ◌-◌, ◌%◌, ◌≤◌, ◌<◌, min}
use mathlib.Core.Path.{◌≡◌, refl, ap, sym, ◌∙◌}
use mathlib.Core.List.{List, [], ◌∷◌}
use mathlib.Core.Bool.{Bool, true, false, cond}
use mathlib.Core.Logic.{⊎_elim}
use native.Mathlib.Nat.{eq-zero-or-pos}
use native.Mathlib.Omega.{arith}
use lib.ListN.{length, get_or, take, length-append}
use lib.Seq.{take-append-le, take-take, take_all, length-take-le}
use lib.Dec.{eqb}
use borrow.Author.Tests.{le-ltb, eq-eqb, ne_eqb}
use Rattle.points.specs.Checks.{first_failing}
use Rattle.points.specs.Refusal.{Said, refuses, gives}
use Rattle.envelope.specs.Envelope.{new, valid_envelope}
use Rattle.envelope.specs.Edit.{EditTold}
use Rattle.envelope.specs.Typed.{typed}
use Rattle.envelope.specs.declared.AutomationEnvelope.{AutomationEnvelope}
use Rattle.equal.specs.Equal.{bit_equal}
use Rattle.state.specs.State.{pack}
use Rattle.session.specs.Session.{states_in, state_at, stored, slot_after, moved_to, counted, settled, accepted}
use Rattle.session.proofs.Slots.{lt_or_le, length-stored, stored_same, stored_other, word_other, slots_differ, after_slot}
use Rattle.session.specs.Calls.{Entry, made_by, edit, in_turn, call_of}
use Rattle.session.specs.declared.Session.{Session}
use Rattle.history.specs.Rule.{Hist, made, up_to, joined_by, rule_refuses, rule_accepts, ruled_by, edit_ruled, rule_tests, rule_of}
use Rattle.history.proofs.Entries.{entry_valid, entry_typed}
use Rattle.history.specs.After.{Holds, Outside, typed_entry}
use Rattle.history.proofs.Steps.{Inv, CallStep, made_snoc, states, envelope_typed, envelope_words, marks, at_fits, rule_by, calls_by}

-- a refusal leaves the history, whatever an accepted edit would make of it
ruled_refused : (y : Said (Unit {0})) (old new : Hist) (n : ℕ) → y ≡ refuses n → ruled_by y old new ≡ rule_refuses n old
ruled_refused y old new n h = ap (λ (y : Said (Unit {0})). ruled_by y old new) h

module _ (start : AutomationEnvelope) (d : ℕ) (h : Hist) (s : Session) (m : List ℕ) (v : Inv start d h s m) where
  module _ (x : Entry) (passed : first_failing (in_turn (rule_tests start h (edit x))) ≡ None) where
    abbrev told : EditTold
    told = made_by x s.envelope

    rule_edit : rule_of start d h (edit x) ≡ edit_ruled d h x s.envelope told
    rule_edit = rule_by start d h s m v (edit x) None passed ∙ ap (λ (e : AutomationEnvelope). edit_ruled d h x e (made_by x e)) (sym v.envelope)

    calls_edit : call_of (edit x) s m ≡ settled s m told.said told.envelope
    calls_edit = calls_by start d h s m v (edit x) None passed

    refused-edit : (n : ℕ) → told.said ≡ refuses n → CallStep start d h s m (edit x)
    refused-edit n r =
        record {
          answer = refuses n;
          hist = h;
          session = s;
          memory = m;
          rule = rule_edit ∙ ruled_refused told.said h _ n r;
          calls = calls_edit ∙ ap (λ (y : Said (Unit {0})). settled s m y told.envelope) r;
          inv = λ t. v;
          lent = refl;
          stays = λ i out. refl;
        }

    -- an accepted edit by whether it altered a bit, on both sides
    rule_accepted : (same : Bool) → told.said ≡ gives tt → bit_equal s.envelope told.envelope ≡ same → rule_of start d h (edit x) ≡ rule_accepts (cond same h (joined_by d h x))
    rule_accepted same z is = rule_edit ∙ (λ i. ruled_by (z i) h (cond (is i) h (joined_by d h x)))

    calls_accepted : (same : Bool) → told.said ≡ gives tt → bit_equal s.envelope told.envelope ≡ same
        → call_of (edit x) s m ≡ cond same (accepted s m) (counted s m told.envelope)
    calls_accepted same z is = calls_edit ∙ ap (λ (y : Said (Unit {0})). settled s m y told.envelope) z ∙ ap (λ (b : Bool). cond b (accepted s m) (counted s m told.envelope)) is

    -- an idle edit
    idle_edit : told.said ≡ gives tt → bit_equal s.envelope told.envelope ≡ true → CallStep start d h s m (edit x)
    idle_edit z same =
        record {
          answer = gives tt;
          hist = h;
          session = s;
          memory = m;
          rule = rule_accepted true z same;
          calls = calls_accepted true z same;
          inv = λ t. v;
          lent = refl;
          stays = λ i out. refl;
        }

    -- the list with the edit
    abbrev h' : Hist
    h' = joined_by d h x

    length-h' : length h'.edits ≡ h.mark + 1
    length-h' = simp length-append (omega (arith, length-take-le h.mark h.edits (marks start d h s m v)))

    up_to_old : (k : ℕ) → k ≤ h.mark → up_to start h' k ≡ up_to start h k
    unfolding up_to
    up_to_old k l =
        ap (λ (l : List Entry). made l start)
        (take-append-le k (take h.mark h.edits) (x ∷ []) (omega (arith, length-take-le h.mark h.edits (marks start d h s m v)))
        ∙ take-take k h.mark h.edits l)

    up_to_new : up_to start h' (h.mark + 1) ≡ (made_by x (up_to start h h.mark)).envelope
    unfolding up_to
    up_to_new =
        ap (λ (l : List Entry). made l start) (take_all (h.mark + 1) h'.edits (omega (arith, length-h')))
        ∙ made_snoc (take h.mark h.edits) x start

    new_is : up_to start h' (h.mark + 1) ≡ told.envelope
    new_is = up_to_new ∙ ap (λ (e : AutomationEnvelope). (made_by x e).envelope) (sym v.envelope)

    -- a test that the envelopes of the list pass, and the new one too
    all_pass : (test : AutomationEnvelope → Bool) → ((k : ℕ) → k ≤ length h.edits → test (up_to start h k) ≡ true) → test told.envelope ≡ true
        → (k : ℕ) → k ≤ length h'.edits → test (up_to start h' k) ≡ true
    all_pass test old new k l =
        ⊎_elim
        (λ (b : k < h.mark + 1). ap test (up_to_old k (omega arith)) ∙ old k (omega arith))
        (λ (b : h.mark + 1 ≤ k).
        let e : k ≡ h.mark + 1 = omega (arith, length-h') in
        ap (λ (n : ℕ). test (up_to start h' n)) e ∙ ap test new_is ∙ new)
        (lt_or_le k (h.mark + 1))

    module _ (z : told.said ≡ gives tt) (new : bit_equal s.envelope told.envelope ≡ false) where
      abbrev s' : Session
      s' = moved_to s told.envelope (slot_after d s.at) (min (s.kept + 1) d) 0

      abbrev w : List ℕ
      w = pack s.envelope

      abbrev m' : List ℕ
      m' = cond (eqb d 0) m (stored s.at w m)

      m'_none : d ≡ 0 → m' ≡ m
      m'_none e = rw (eq-eqb d 0 e)

      m'_put : 0 < d → m' ≡ stored s.at w m
      m'_put p = rw (ne_eqb d 0 (omega arith))

      calls' : call_of (edit x) s m ≡ accepted s' m'
      calls' = calls_accepted false z new ∙ rw (states start d h s m v)

      before' : 0 < d → (k : ℕ) → h.mark + 1 - min (h.kept + 1) d ≤ k → k < h.mark + 1
          → state_at (stored s.at w m) (k % d) ≡ pack (up_to start h' k)
      before' p k a b =
          ⊎_elim
          (λ (l : k < h.mark).
          stored_other m s.at w (envelope_words start d h s m v) ((at_fits start d h s m v) p) (k % d)
          (λ e. slots_differ k h.mark d (omega arith) (omega arith) (omega arith) (e ∙ v.at_slot p))
          ∙ v.holds.before k (omega arith) l
          ∙ ap pack (sym (up_to_old k (omega arith))))
          (λ (l : h.mark ≤ k).
          let e : k ≡ h.mark = omega arith in
          ap (λ (n : ℕ). state_at (stored s.at w m) n) (ap (λ (n : ℕ). n % d) e ∙ sym (v.at_slot p))
          ∙ stored_same m s.at w (envelope_words start d h s m v) ((at_fits start d h s m v) p)
          ∙ ap pack (v.envelope ∙ sym (up_to_old h.mark (omega arith)) ∙ ap (up_to start h') (sym e)))
          (lt_or_le k h.mark)

      length-m' : length m' ≡ length m
      length-m' =
          ⊎_elim (λ (e : d ≡ 0). ap length (m'_none e))
          (λ (p : 0 < d). ap length (m'_put p) ∙ length-stored m s.at w (envelope_words start d h s m v) ((at_fits start d h s m v) p)) (eq-zero-or-pos d)

      holds' : Holds start d h' m'
      holds' =
          record {
            before = λ k a b.
                ⊎_elim (λ (e : d ≡ 0). absurd (omega arith))
                (λ (p : 0 < d). ap (λ (l : List ℕ). state_at l (k % d)) (m'_put p) ∙ before' p k a b) (eq-zero-or-pos d);
            after = λ k a b. absurd (omega (arith, length-h'));
          }

      after' : 0 < d → slot_after d s.at ≡ (h.mark + 1) % d
      after' p = ap (slot_after d) (v.at_slot p) ∙ after_slot h.mark d p

      zero' : d ≡ 0 → slot_after d s.at ≡ 0
      unfolding slot_after
      zero' e = rw (le-ltb (s.at + 1) d (omega arith))

      alters' : (k : ℕ) → k < length h'.edits → bit_equal (up_to start h' k) (up_to start h' (k + 1)) ≡ false
      alters' k l =
          ⊎_elim
          (λ (b : k < h.mark). (λ i. bit_equal (up_to_old k (omega arith) i) (up_to_old (k + 1) (omega arith) i)) ∙ v.alters k (omega (arith, v.ahead)))
          (λ (b : h.mark ≤ k).
          let e : k ≡ h.mark = omega (arith, length-h') in
          ap (λ (n : ℕ). bit_equal (up_to start h' n) (up_to start h' (n + 1))) e
          ∙ (λ i. bit_equal ((up_to_old h.mark (omega arith) ∙ sym v.envelope) i) (new_is i))
          ∙ new)
          (lt_or_le k h.mark)

      inv' : typed_entry x ≡ true → Inv start d h' s' m'
      inv' t =
          record {
            words = v.words ∙ sym length-m';
            d_is = v.d_is ∙ ap states_in (sym length-m');
            envelope = sym new_is;
            kept = ap (λ (n : ℕ). min (n + 1) d) v.kept;
            ahead = omega (arith, length-h');
            kept_le = omega arith;
            room = omega arith;
            at_zero = zero';
            at_slot = after';
            valid = all_pass valid_envelope v.valid (entry_valid x s.envelope z);
            in_range = all_pass typed v.in_range (entry_typed x s.envelope (envelope_typed start d h s m v) t);
            alters = alters';
            holds = holds';
          }

      -- words in none of the states stay
      stays' : (i : ℕ) → Outside d h' i → get_or m' i 0 ≡ get_or m i 0
      stays' i out =
          ⊎_elim (λ (e : d ≡ 0). ap (λ (l : List ℕ). get_or l i 0) (m'_none e))
          (λ (p : 0 < d).
          ap (λ (l : List ℕ). get_or l i 0) (m'_put p)
          ∙ word_other m s.at w (envelope_words start d h s m v) ((at_fits start d h s m v) p) i
          (λ e. out h.mark (omega arith) (omega (arith, length-h')) (e ∙ v.at_slot p)))
          (eq-zero-or-pos d)

      counted_edit : CallStep start d h s m (edit x)
      counted_edit =
          record {
            answer = gives tt;
            hist = h';
            session = s';
            memory = m';
            rule = rule_accepted false z new;
            calls = calls';
            inv = inv';
            lent = length-m';
            stays = stays';
          }

    pub edit_stepped : (a : Said (Unit {0})) → told.said ≡ a → (same : Bool) → bit_equal s.envelope told.envelope ≡ same → CallStep start d h s m (edit x)
    edit_stepped (refuses n) a same e = refused-edit n a
    edit_stepped (gives u) a true e = idle_edit a e
    edit_stepped (gives u) a false e = counted_edit a e
