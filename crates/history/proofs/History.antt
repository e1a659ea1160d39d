-- The history theorem, demand 3: one law over every list of calls from a new session.
use Rattle.std.specs.Prelude.{None, Option, Result, Some}
use Prim.Native.Nat.{ℕ}
use mathlib.Core.Path.{◌≡◌, refl, ap, ap₂, sym, ◌∙◌}
use mathlib.Core.List.{List, ◌∷◌}
use mathlib.Core.Bool.{true}
use native.Mathlib.Nat.{zero-mod}
use native.Mathlib.Omega.{arith}
use lib.ListN.{length, get_or}
use lib.Seq.{take-nil}
use borrow.Author.Tests.{lt-ltb}
use Rattle.numbers.proofs.Tests.{and_left, and_right}
use Rattle.points.specs.Checks.{first_failing}
use Rattle.points.specs.Refusal.{Said, said}
use Rattle.points.specs.Points.{every}
use Rattle.points.specs.declared.refusal.Refusal.{Refusal}
use Rattle.envelope.specs.Envelope.{new, valid_envelope}
use Rattle.envelope.specs.Typed.{typed}
use Rattle.envelope.proofs.TypedLaws.{new_typed, new_valid}
use Rattle.envelope.specs.declared.AutomationEnvelope.{AutomationEnvelope}
use Rattle.equal.specs.Equal.{bit_equal}
use Rattle.session.specs.Session.{states_in, opened, open_session, Called, called}
use Rattle.session.specs.Calls.{Entry, made_by, Call, edit, back, forward, in_turn, Obeys, Ran, done, call}
use Rattle.session.specs.declared.Session.{Session}
use Rattle.history.specs.Rule.{Hist, new_hist, made, up_to, Ruled, rule_tests, rule_of, hist_after, answers_after}
use Rattle.history.specs.After.{typed_call}
use Rattle.history.specs.Promised.{HistoryFrom, History}
use Rattle.history.proofs.Steps.{Inv, CallStep, refused_call, session_valid, place_is}
use Rattle.history.proofs.Edits.{edit_stepped}
use Rattle.history.proofs.Moves.{yes_back, yes_forward}
use Rattle.history.proofs.Played.{runs_of}

-- what a call does
module _ (start : AutomationEnvelope) (d : ℕ) (h : Hist) (s : Session) (m : List ℕ) (v : Inv start d h s m) where
  passes : (c : Call) → first_failing (in_turn (rule_tests start h c)) ≡ None → CallStep start d h s m c
  passes (edit x) p = edit_stepped start d h s m v x p (made_by x s.envelope).said refl (bit_equal s.envelope (made_by x s.envelope).envelope) refl
  passes back p = yes_back start d h s m v p
  passes forward p = yes_forward start d h s m v p

  step : (c : Call) → CallStep start d h s m c
  step c = go (first_failing (in_turn (rule_tests start h c))) refl
    where
      go : (o : Option Refusal) → first_failing (in_turn (rule_tests start h c)) ≡ o → CallStep start d h s m c
      go None e = passes c e
      go (Some r) e = refused_call start d h s m v c r e

carry : (start : AutomationEnvelope) (d : ℕ) (h h' : Hist) (s s' : Session) (m m' : List ℕ) → h ≡ h' → s ≡ s' → m ≡ m' → Inv start d h' s' m' → Inv start d h s m
carry start d h h' s s' m m' p q r v = rw (p, q, r) v

-- one call that obeys its contract takes the rule's history to the rule's next, and says what the rule says
module _ (start : AutomationEnvelope) (d : ℕ) (h : Hist) (s : Session) (m : List ℕ) (v : Inv start d h s m) (c : Call) (a : Result (Unit {0}) Refusal)
    (s' : Session) (m' : List ℕ) (ob : Obeys s m c a s' m') where
  abbrev st : CallStep start d h s m c
  st = step start d h s m v c

  as_stepped : called a s' m' ≡ record { said = st.answer; session = st.session; memory = st.memory }
  as_stepped = ob ∙ st.calls

  next_inv : typed_call c ≡ true → Inv start d (rule_of start d h c).hist s' m'
  next_inv t =
      carry start d (rule_of start d h c).hist st.hist s' st.session m' st.memory (ap (λ (x : Ruled). x.hist) st.rule)
      (ap (λ (x : Called). x.session) as_stepped) (ap (λ (x : Called). x.memory) as_stepped) (st.inv t)

  next_lent : length m' ≡ length m
  next_lent = ap (λ (x : Called). length x.memory) as_stepped ∙ st.lent

  next_said : said a ≡ (rule_of start d h c).said
  next_said = ap (λ (x : Called). x.said) as_stepped ∙ sym (ap (λ (x : Ruled). x.said) st.rule)

keeps : (start : AutomationEnvelope) (d : ℕ) (h : Hist) {s : Session} {m : List ℕ} {cs : List Call} {answers : List (Said (Unit {0}))} {s'' : Session} {m'' : List ℕ}
    → Ran s m cs answers s'' m'' → every typed_call cs ≡ true → Inv start d h s m
    → Inv start d (hist_after start d h cs) s'' m'' × (answers ≡ answers_after start d h cs) × (length m'' ≡ length m)
unfolding hist_after answers_after
keeps start d h done t v = (v, refl, refl)
keeps start d h (call {s = s} {m = m} {c = c} a {s' = s'} {m' = m'} {cs = cs} ob r) t v =
    let k = keeps start d (rule_of start d h c).hist r (and_right (typed_call c) (every typed_call cs) t)
    (next_inv start d h s m v c a s' m' ob (and_left (typed_call c) (every typed_call cs) t)) in
    (k.0, ap₂ (λ (x : Said (Unit {0})) (xs : List (Said (Unit {0}))). x ∷ xs) (next_said start d h s m v c a s' m' ob) k.1, k.2 ∙ next_lent start d h s m v c a s' m' ob)

begun : (start : AutomationEnvelope) (m : List ℕ) → typed start ≡ true → valid_envelope start ≡ true → Inv start (states_in (length m)) new_hist (opened start (length m)) m
unfolding up_to made
begun start m t f =
    record {
      words = refl;
      d_is = refl;
      envelope = refl;
      kept = refl;
      ahead = refl;
      kept_le = omega arith;
      room = omega arith;
      at_zero = λ e. refl;
      at_slot = λ p. sym (zero-mod (states_in (length m)));
      valid = λ k l. ap (λ (x : List Entry). valid_envelope (made x start)) (take-nil k) ∙ f;
      in_range = λ k l. ap (λ (x : List Entry). typed (made x start)) (take-nil k) ∙ t;
      alters = λ k l. absurd (omega arith);
      holds = record { before = λ k a b. absurd (omega arith); after = λ k a b. absurd (omega arith) };
    }

-- demand 3, from any valid envelope
pub history : HistoryFrom
history start t f m₀ cs ts answers s m r =
    let d : ℕ = states_in (length m₀) in
    let k = keeps start d new_hist r ts (begun start m₀ t f) in
    let v = k.0 in
    record {
      said = k.1;
      envelope = v.envelope;
      kept = v.kept;
      ahead = omega (arith, v.ahead);
      valid = session_valid start d (hist_after start d new_hist cs) s m v;
      words = v.words ∙ k.2;
      lent = k.2;
      place = place_is start d (hist_after start d new_hist cs) s m v;
      holds = v.holds;
      alters = v.alters;
      stay = λ c i out.
          let st = step start d (hist_after start d new_hist cs) s m v c in
          ap (λ (x : Called). get_or x.memory i 0) st.calls
          ∙ st.stays i (λ k a b e. out k (rw st.rule a) (rw st.rule b) e);
      runs = rw (← v.envelope) (runs_of start d (hist_after start d new_hist cs) s m v);
    }

-- demand 3: from a new session for any target and step memory
pub history_new : History
unfolding open_session
history_new target f m₀ cs ts answers s m r = history (new target) (new_typed target (lt-ltb target 0x1_0000_0000 f)) (new_valid target) m₀ cs ts answers s m r
