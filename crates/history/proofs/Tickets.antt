-- 14 by the rule: where the envelope differs by a bit from a ticket's first and 1 doesn't apply, and nowhere else. Assumes nothing.
use Rattle.std.specs.Prelude.{None, Some}
use Prim.Native.Nat.{ℕ, ◌<◌}
use mathlib.Core.Path.{◌≡◌, refl, sym}
use mathlib.Core.Bool.{Bool, true, false, cond}
use native.Mathlib.Omega.{arith}
use lib.Dec.{ltb}
use borrow.Author.Tests.{ltb-true}
use Rattle.points.specs.Checks.{first_failing, unless_refused}
use Rattle.points.specs.Points.{list_of}
use Rattle.points.proofs.CheckLaws.{never}
use Rattle.points.specs.Refusal.{Said, refuses, gives, number}
use Rattle.points.specs.declared.refusal.Refusal.TheVariants.{NotValid, NoStep, OtherEnvelope}
use Rattle.envelope.specs.Envelope.{valid_envelope}
use Rattle.envelope.specs.Edit.{proposal, edit_of}
use Rattle.envelope.proofs.EditLaws.{outcome_among}
use Rattle.envelope.proofs.JoinLaws.{join_numbers}
use Rattle.envelope.specs.declared.AutomationEnvelope.{AutomationEnvelope}
use Rattle.envelope.specs.declared.edit.Join.TheVariants.{Merge}
use Rattle.session.specs.Calls.{Entry, alone, joined, committed, made_by, Call, edit, back, forward, call_valid, call_fits}
use Rattle.history.specs.Rule.{Hist, envelope_of, rule_refuses, ruled_by, stands_in, ruled, rule_of}
use Rattle.history.specs.Promised.{FourteenWhereItDiffers, FourteenNowhereElse}

-- an edit's own refusals have 01's numbers
made_numbers : (x : Entry) (e : AutomationEnvelope) (n : ℕ) → (made_by x e).said ≡ refuses n → n < 14
unfolding edit_of
made_numbers (alone d) e n h = ltb-true n 14 (outcome_among e (valid_envelope e) (proposal d (list_of e.points)) _ (λ n. ltb n 14) refl n h)
made_numbers (joined j other) e n h = join_numbers j e other n h
made_numbers (committed t) e n h = join_numbers (Merge t.offset) e t.second n h

by_said : (y : Said (Unit {0})) (old new : Hist) (n : ℕ) → (ruled_by y old new).said ≡ refuses n → y ≡ refuses n
by_said (refuses k) old new n h = h
by_said (gives u) old new n h = h

module _ (start : AutomationEnvelope) (d : ℕ) (h : Hist) where
  -- what a call does that has passed its tests gives no 14
  own_never : (c : Call) → (ruled start d h c).said ≡ refuses 14 → ⊥
  own_never (edit x) is =
      let small : 14 < 14 = made_numbers x (envelope_of start h) 14 (by_said (made_by x (envelope_of start h)).said h _ 14 is) in
      omega arith
  own_never back is = never (sym is)
  own_never forward is = never (sym is)

  module _ (c : Call) where
    -- the rule by its tests, of which 11 always passes
    by_tests : rule_of start d h c
        ≡ unless_refused (cond (call_valid c) (cond (call_fits c (envelope_of start h)) (cond (stands_in h c) None (Some NoStep)) (Some OtherEnvelope)) (Some NotValid))
        (λ r. rule_refuses (number r) h) (ruled start d h c)
    unfolding rule_of first_failing
    by_tests = refl

    given : call_valid c ≡ true → call_fits c (envelope_of start h) ≡ false → rule_of start d h c ≡ rule_refuses 14 h
    given v f = rw (by_tests, v, f)

    only_by : (v f s : Bool)
        → (unless_refused (cond v (cond f (cond s None (Some NoStep)) (Some OtherEnvelope)) (Some NotValid)) (λ r. rule_refuses (number r) h) (ruled start d h c)).said ≡ refuses 14
        → (v ≡ true) × (f ≡ false)
    only_by false f s is = let z : ◌≡◌ {A = ℕ} 1 14 = cc in absurd (omega arith)
    only_by true false s is = (refl, refl)
    only_by true true false is = let z : ◌≡◌ {A = ℕ} 10 14 = cc in absurd (omega arith)
    only_by true true true is = absurd (own_never c is)

pub fourteen_given : FourteenWhereItDiffers
fourteen_given start d h c v f = given start d h c v f

pub fourteen_only : FourteenNowhereElse
unfolding rule_of first_failing
fourteen_only start d h c is = only_by start d h c (call_valid c) (call_fits c (envelope_of start h)) (stands_in h c) is
