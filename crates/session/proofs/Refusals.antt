-- "A refusal returns its number .. and changes nothing": `RefusedCallChangesNothing` of specs/Promised, over every call of a session. Assumes nothing.
use Rattle.std.specs.Prelude.{None, Option, Some}
use Prim.Native.Nat.{ℕ}
use mathlib.Core.Path.{◌≡◌, ap, sym, ◌∙◌}
use mathlib.Core.List.{List}
use Rattle.numbers.proofs.Tests.{either}
use Rattle.points.specs.Checks.{first_failing}
use Rattle.points.proofs.CheckLaws.{gate_either, never}
use Rattle.points.specs.Refusal.{Said, refuses, gives, number}
use Rattle.envelope.specs.declared.AutomationEnvelope.{AutomationEnvelope}
use Rattle.equal.specs.Equal.{bit_equal}
use Rattle.state.specs.State.{unpacked}
use Rattle.session.specs.Session.{depth, state_at, slot_before, Called, declined, accepted, settled, exchanged}
use Rattle.session.specs.Promised.{RefusedCallChangesNothing}
use Rattle.session.specs.Calls.{made_by, Call, edit, back, forward, in_turn, tests_of, own_of, call_of}
use Rattle.session.specs.declared.Session.{Session}

-- what is refused leaves the session and the memory
abbrev Stays : Session → List ℕ → Called → Type 0
Stays s m x = (n : ℕ) → x.said ≡ refuses n → x ≡ declined n s m

module _ (s : Session) (m : List ℕ) where
  declined_stays : (k : ℕ) → Stays s m (declined k s m)
  declined_stays k n h = ap (λ (x : Said (Unit {0})). record { said = x; session = s; memory = m }) h

  accepted_stays : (s' : Session) (m' : List ℕ) → Stays s m (accepted s' m')
  accepted_stays s' m' n h = never (sym h)

  settled_stays : (x : Said (Unit {0})) (e : AutomationEnvelope) → Stays s m (settled s m x e)
  settled_stays (refuses n) e = declined_stays n
  settled_stays (gives u) e = either (Stays s m) (bit_equal s.envelope e) (λ same. accepted_stays _ _) (accepted_stays _ _)

  exchanged_stays : (k : ℕ) (to : AutomationEnvelope → Session) (u : Option AutomationEnvelope) → Stays s m (exchanged s m k to u)
  exchanged_stays k to None = declined_stays 12
  exchanged_stays k to (Some e) = accepted_stays _ _

  own_stays : (c : Call) → Stays s m (own_of c s m)
  own_stays (edit x) = settled_stays (made_by x s.envelope).said (made_by x s.envelope).envelope
  own_stays back = exchanged_stays _ _ (unpacked (state_at m (slot_before (depth s) s.at)))
  own_stays forward = exchanged_stays _ _ (unpacked (state_at m s.at))

  call_stays : (c : Call) → Stays s m (call_of c s m)
  unfolding call_of
  call_stays c =
      gate_either (Stays s m) (first_failing (in_turn (tests_of c s m))) (λ r. declined (number r) s m) (own_of c s m) (λ r. declined_stays (number r))
      (λ h. own_stays c)

pub refused_call : RefusedCallChangesNothing
refused_call s m c a s' m' n ob h =
    let all = ob ∙ call_stays s m c n (ap (λ (x : Called). x.said) (sym ob) ∙ h) in
    (ap (λ (x : Called). x.session) all, ap (λ (x : Called). x.memory) all)
