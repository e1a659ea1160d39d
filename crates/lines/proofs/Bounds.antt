-- The fields of a settings line that has the form. Assumes nothing.
use Prim.Native.Nat.{ℕ}
use mathlib.Core.Path.{◌≡◌, subst}
use mathlib.Core.List.{List}
use Rattle.fields.specs.Form.{got, number_form, optional_form, target_form}
use Rattle.fields.proofs.Forms.{unthen}
use Rattle.lines.specs.Lines.{settings_form}
use Rattle.lines.specs.declared.settings.RawSettings.{RawSettings}

-- each field's form, and the bytes after it
pub record SettingsParts (l : List ℕ) (r : RawSettings) (rest : List ℕ) : Type 0 where
  pub l1 : List ℕ
  pub l2 : List ℕ
  pub l3 : List ℕ
  pub l4 : List ℕ
  pub l5 : List ℕ
  pub target : target_form l ≡ got r.target l1
  pub enabled : number_form 2 1 32 l1 ≡ got r.enabled l2
  pub min : optional_form 8 32 l2 ≡ got r.min l3
  pub max : optional_form 8 32 l3 ≡ got r.max l4
  pub step : optional_form 8 32 l4 ≡ got r.step l5
  pub hard : number_form 2 1 10 l5 ≡ got r.hard rest

pub settings_parts : (l : List ℕ) (r : RawSettings) (rest : List ℕ) → settings_form l ≡ got r rest → SettingsParts l r rest
unfolding settings_form
settings_parts l r rest q =
    unthen (target_form l) _ q (λ target l1 e1 q1.
    unthen (number_form 2 1 32 l1) _ q1 (λ enabled l2 e2 q2.
    unthen (optional_form 8 32 l2) _ q2 (λ min l3 e3 q3.
    unthen (optional_form 8 32 l3) _ q3 (λ max l4 e4 q4.
    unthen (optional_form 8 32 l4) _ q4 (λ step l5 e5 q5.
    unthen (number_form 2 1 10 l5) _ q5 (λ hard l6 e6 q6.
    let made : RawSettings = record { target = target; enabled = enabled; min = min; max = max; step = step; hard = hard } in
    let same : made ≡ r = cc in
    let end : l6 ≡ rest = cc in
    subst (λ (x : RawSettings). SettingsParts l x rest) same
    (record { l1 = l1; l2 = l2; l3 = l3; l4 = l4; l5 = l5; target = e1; enabled = e2; min = e3; max = e4; step = e5; hard = rw (← end) e6 })))))))
