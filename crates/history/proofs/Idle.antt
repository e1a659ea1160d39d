-- An edit that alters nothing, anywhere in a list. Assumes nothing.
use Prim.Native.Nat.{ℕ}
use mathlib.Core.Path.{◌≡◌, refl, ap, sym, ◌∙◌}
use mathlib.Core.Bool.{true}
use mathlib.Core.List.{List, [], ◌∷◌, ◌++◌}
use Rattle.points.specs.Checks.{first_failing}
use Rattle.points.proofs.CheckLaws.{gate_either}
use Rattle.points.specs.Refusal.{Said, refuses, gives, number}
use Rattle.envelope.specs.Edit.{EditTold}
use Rattle.envelope.specs.declared.AutomationEnvelope.{AutomationEnvelope}
use Rattle.equal.specs.Equal.{bit_equal}
use Rattle.session.specs.Calls.{Entry, made_by, Call, edit, in_turn}
use Rattle.history.specs.Rule.{Hist, envelope_of, Ruled, rule_refuses, ruled_by, edit_ruled, rule_tests, ruled, rule_of, hist_after}
use Rattle.history.specs.Promised.{IdleEditsDontCount}

-- refused or accepted, it leaves the history
idle_ruled : (d : ℕ) (h : Hist) (x : Entry) (e : AutomationEnvelope) (told : EditTold) → bit_equal e told.envelope ≡ true → (edit_ruled d h x e told).hist ≡ h
idle_ruled d h x e told same = ap (λ (new : Hist). (ruled_by told.said h new).hist) (rw same) ∙ stays told.said
  where
    stays : (y : Said (Unit {0})) → (ruled_by y h h).hist ≡ h
    stays (refuses n) = refl
    stays (gives u) = refl

module _ (start : AutomationEnvelope) (d : ℕ) (h : Hist) where
  idle_call : (x : Entry) → bit_equal (envelope_of start h) (made_by x (envelope_of start h)).envelope ≡ true → (rule_of start d h (edit x)).hist ≡ h
  unfolding rule_of
  idle_call x same =
      gate_either (λ (r : Ruled). r.hist ≡ h) (first_failing (in_turn (rule_tests start h (edit x)))) (λ r. rule_refuses (number r) h) (ruled start d h (edit x)) (λ r. refl)
      (λ e. idle_ruled d h x (envelope_of start h) (made_by x (envelope_of start h)) same)

-- a list after another
after_both : (start : AutomationEnvelope) (d : ℕ) (h : Hist) (before after : List Call) → hist_after start d h (before ++ after) ≡ hist_after start d (hist_after start d h before) after
unfolding hist_after
after_both start d h [] after = refl
after_both start d h (c ∷ before) after = after_both start d (rule_of start d h c).hist before after

pub idle_anywhere : IdleEditsDontCount
unfolding hist_after
idle_anywhere start d h before after x same =
    let reached = hist_after start d h before in
    after_both start d h before (edit x ∷ after)
    ∙ ap (λ (g : Hist). hist_after start d g after) (idle_call start d reached x same)
    ∙ sym (after_both start d h before after)
