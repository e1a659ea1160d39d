-- A line that is written has its form, and a line that has the form is written back. Assumes nothing.
use Prim.Native.Nat.{ℕ, ◌^◌, ◌<◌}
use mathlib.Core.Path.{◌≡◌, refl, sym, ap, subst, ◌∙◌}
use mathlib.Core.Bool.{Bool, true, false}
use mathlib.Core.List.{List, ◌++◌, append_assoc}
use native.Mathlib.Omega.{arith}
use lib.ListN.{drop}
use lib.Dec.{eqb}
use borrow.Author.Tests.{eqb-true, eqb-false}
use Rattle.fields.specs.Form.{got, starts_with, number_form, optional_form}
use Rattle.lines.specs.Lines.{settings_form, dashes, controls_form, point_form}
use Rattle.fields.specs.Text.{number_text, optional_text, decimal_text}
use Rattle.sheet.specs.Text.{settings_text, controls_text, point_text}
use Rattle.fields.specs.Told.{Below}
use Rattle.lines.specs.declared.settings.RawSettings.{RawSettings}
use Rattle.lines.specs.declared.point.RawPoint.{RawPoint}
use Rattle.fields.proofs.ReadDigits.{number_lt}
use Rattle.fields.proofs.Decimal.{target_lt}
use Rattle.fields.proofs.Starts.{starts_back}
use Rattle.lines.proofs.Bounds.{settings_parts}
use Rattle.fields.proofs.Forms.{unthen, uncond, optional_lt}
use Rattle.fields.proofs.Back.{read_number, write_number, read_optional, write_optional}
use Rattle.fields.proofs.Target.{read_target, write_target}

-- five parts in a row, and what follows
parts : (a b c d e rest : List ℕ) → (a ++ (b ++ (c ++ (d ++ e)))) ++ rest ≡ a ++ (b ++ (c ++ (d ++ (e ++ rest))))
parts a b c d e rest = simp append_assoc

-- six parts in a row, and what follows
six_parts : (a b c d e f rest : List ℕ) → (a ++ (b ++ (c ++ (d ++ (e ++ f))))) ++ rest ≡ a ++ (b ++ (c ++ (d ++ (e ++ (f ++ rest)))))
six_parts a b c d e f rest = simp append_assoc

-- ---- the settings line

-- the numbers have their widths
pub record FineSettings (r : RawSettings) : Type 0 where
  pub target : r.target < 2 ^ 32
  pub enabled : r.enabled < 2 ^ 1
  pub min : Below (16 ^ 8) r.min
  pub max : Below (16 ^ 8) r.max
  pub step : Below (16 ^ 8) r.step
  pub hard : r.hard < 2 ^ 1

pub read_settings : (r : RawSettings) (rest : List ℕ) → FineSettings r → settings_form (settings_text r ++ rest) ≡ got r rest
unfolding settings_form settings_text
read_settings r rest f =
    let a = decimal_text 32 r.target in
    let b = number_text 2 1 32 r.enabled in
    let c = optional_text 8 32 r.min in
    let d = optional_text 8 32 r.max in
    let e = optional_text 8 32 r.step in
    let g = number_text 2 1 10 r.hard in
    rw (
      six_parts a b c d e g rest,
      read_target r.target (b ++ (c ++ (d ++ (e ++ (g ++ rest))))) f.target,
      read_number 2 1 32 r.enabled (c ++ (d ++ (e ++ (g ++ rest)))) (omega arith) (omega arith) f.enabled,
      read_optional 8 32 r.min (d ++ (e ++ (g ++ rest))) (omega arith) f.min,
      read_optional 8 32 r.max (e ++ (g ++ rest)) (omega arith) f.max,
      read_optional 8 32 r.step (g ++ rest) (omega arith) f.step,
      read_number 2 1 10 r.hard rest (omega arith) (omega arith) f.hard,
    )

-- what a line says that has the form
pub record SettingsFound (l : List ℕ) (r : RawSettings) (rest : List ℕ) : Type 0 where
  pub fine : FineSettings r
  pub text : l ≡ settings_text r ++ rest

pub settings_found : (l : List ℕ) (r : RawSettings) (rest : List ℕ) → settings_form l ≡ got r rest → SettingsFound l r rest
unfolding settings_text
settings_found l r rest q =
    let p = settings_parts l r rest q in
    record {
      fine = record {
        target = target_lt l r.target p.l1 p.target;
        enabled = number_lt 2 1 32 p.l1 r.enabled p.l2 p.enabled;
        min = optional_lt 8 32 p.l2 r.min p.l3 p.min;
        max = optional_lt 8 32 p.l3 r.max p.l4 p.max;
        step = optional_lt 8 32 p.l4 r.step p.l5 p.step;
        hard = number_lt 2 1 10 p.l5 r.hard rest p.hard;
      };
      text = write_target l r.target p.l1 p.target
          ∙ ap (λ (z : List ℕ). decimal_text 32 r.target ++ z) (write_number 2 1 32 p.l1 r.enabled p.l2 (omega arith) p.enabled
          ∙ ap (λ (z : List ℕ). number_text 2 1 32 r.enabled ++ z) (write_optional 8 32 p.l2 r.min p.l3 p.min
          ∙ ap (λ (z : List ℕ). optional_text 8 32 r.min ++ z) (write_optional 8 32 p.l3 r.max p.l4 p.max
          ∙ ap (λ (z : List ℕ). optional_text 8 32 r.max ++ z) (write_optional 8 32 p.l4 r.step p.l5 p.step
          ∙ ap (λ (z : List ℕ). optional_text 8 32 r.step ++ z) (write_number 2 1 10 p.l5 r.hard rest (omega arith) p.hard)))))
          ∙ sym
          (six_parts (decimal_text 32 r.target) (number_text 2 1 32 r.enabled) (optional_text 8 32 r.min) (optional_text 8 32 r.max) (optional_text 8 32 r.step)
          (number_text 2 1 10 r.hard) rest);
    }

-- ---- the controls

starts_dashes : (rest : List ℕ) → starts_with dashes (dashes ++ rest) ≡ true
unfolding starts_with
starts_dashes rest = refl

read_controls : (code a b : ℕ) (rest : List ℕ) → a < 16 ^ 8 → b < 16 ^ 8 → ((code ≡ 5 → ⊥) → (a ≡ 0) × (b ≡ 0))
    → controls_form code (controls_text code a b ++ rest) ≡ got (a, b) rest
unfolding controls_form
read_controls code a b rest h k plain = on (eqb code 5) refl
  where
    on : (t : Bool) → eqb code 5 ≡ t → controls_form code (controls_text code a b ++ rest) ≡ got (a, b) rest
    on true e =
        rw (
          e,
          append_assoc (number_text 16 8 32 a) (number_text 16 8 10 b) rest,
          read_number 16 8 32 a (number_text 16 8 10 b ++ rest) (omega arith) (omega arith) h,
          read_number 16 8 10 b rest (omega arith) (omega arith) k,
        )
    on false e =
        let z = plain (eqb-false _ _ e) in
        rw (e, starts_dashes rest, z.0, z.1)

record Controls (code : ℕ) (l : List ℕ) (a b : ℕ) (rest : List ℕ) : Type 0 where
  first : a < 16 ^ 8
  second : b < 16 ^ 8
  plain : (code ≡ 5 → ⊥) → (a ≡ 0) × (b ≡ 0)
  text : l ≡ controls_text code a b ++ rest

controls_are : (code : ℕ) (l : List ℕ) (a b : ℕ) (rest : List ℕ) → controls_form code l ≡ got (a, b) rest → Controls code l a b rest
unfolding controls_form
controls_are code l a b rest q = on (eqb code 5) refl
  where
    on : (t : Bool) → eqb code 5 ≡ t → Controls code l a b rest
    on true e =
        unthen (number_form 16 8 32 l) _ (rw e at q)
        (λ x m p k.
        unthen (number_form 16 8 10 m) _ k
        (λ y n o j.
        let pair : ◌≡◌ {A = ℕ × ℕ} (x, y) (a, b) = cc in
        let c1 : x ≡ a = ap (λ (z : ℕ × ℕ). z.0) pair in
        let c2 : y ≡ b = ap (λ (z : ℕ × ℕ). z.1) pair in
        let c3 : n ≡ rest = cc in
        record {
          first = rw (← c1) (number_lt 16 8 32 l x m p);
          second = rw (← c2) (number_lt 16 8 10 m y n o);
          plain = λ no. absurd (no (eqb-true code 5 e));
          text = write_number 16 8 32 l x m (omega arith) p
              ∙ rw (e, append_assoc (number_text 16 8 32 a) (number_text 16 8 10 b) rest, c1)
              (ap (λ (z : List ℕ). number_text 16 8 32 a ++ z) (rw (c2, c3) at (write_number 16 8 10 m y n (omega arith) o)));
        }))
    on false e =
        uncond (starts_with dashes l) (rw e at q)
        (λ s k.
        let pair : ◌≡◌ {A = ℕ × ℕ} (0, 0) (a, b) = cc in
        let c1 : 0 ≡ a = ap (λ (z : ℕ × ℕ). z.0) pair in
        let c2 : 0 ≡ b = ap (λ (z : ℕ × ℕ). z.1) pair in
        let c3 : drop 4 l ≡ rest = cc in
        record { first = omega arith; second = omega arith; plain = λ no. (sym c1, sym c2); text = starts_back dashes l s ∙ rw (e, c3) })

-- ---- a point's line

pub record FinePoint (r : RawPoint) : Type 0 where
  pub time : r.time < 16 ^ 16
  pub position : Below (16 ^ 16) r.position
  pub value : r.value < 16 ^ 8
  pub curve : r.curve < 10 ^ 2
  pub cp1 : r.cp1 < 16 ^ 8
  pub cp2 : r.cp2 < 16 ^ 8
  pub plain : (r.curve ≡ 5 → ⊥) → (r.cp1 ≡ 0) × (r.cp2 ≡ 0)

pub read_point : (r : RawPoint) (rest : List ℕ) → FinePoint r → point_form (point_text r ++ rest) ≡ got r rest
unfolding point_form point_text
read_point r rest f =
    let a = number_text 16 16 32 r.time in
    let b = optional_text 16 32 r.position in
    let c = number_text 16 8 32 r.value in
    let d = number_text 10 2 32 r.curve in
    let e = controls_text r.curve r.cp1 r.cp2 in
    rw (
      parts a b c d e rest,
      read_number 16 16 32 r.time (b ++ (c ++ (d ++ (e ++ rest)))) (omega arith) (omega arith) f.time,
      read_optional 16 32 r.position (c ++ (d ++ (e ++ rest))) (omega arith) f.position,
      read_number 16 8 32 r.value (d ++ (e ++ rest)) (omega arith) (omega arith) f.value,
      read_number 10 2 32 r.curve (e ++ rest) (omega arith) (omega arith) f.curve,
      read_controls r.curve r.cp1 r.cp2 rest f.cp1 f.cp2 f.plain,
    )

pub record PointFound (l : List ℕ) (r : RawPoint) (rest : List ℕ) : Type 0 where
  pub fine : FinePoint r
  pub text : l ≡ point_text r ++ rest

pub point_found : (l : List ℕ) (r : RawPoint) (rest : List ℕ) → point_form l ≡ got r rest → PointFound l r rest
unfolding point_form point_text
point_found l r rest q =
    unthen (number_form 16 16 32 l) _ q (λ time l1 e1 q1.
    unthen (optional_form 16 32 l1) _ q1 (λ place l2 e2 q2.
    unthen (number_form 16 8 32 l2) _ q2 (λ value l3 e3 q3.
    unthen (number_form 10 2 32 l3) _ q3 (λ code l4 e4 q4.
    unthen (controls_form code l4) _ q4 (λ both l5 e5 q5.
    let made : RawPoint = record { time = time; position = place; value = value; curve = code; cp1 = both.0; cp2 = both.1 } in
    let same : made ≡ r = cc in
    let end : l5 ≡ rest = cc in
    let two = controls_are code l4 both.0 both.1 l5 e5 in
    subst (λ (x : RawPoint). PointFound l x rest) same
    (record {
      fine = record {
        time = number_lt 16 16 32 l time l1 e1;
        position = optional_lt 16 32 l1 place l2 e2;
        value = number_lt 16 8 32 l2 value l3 e3;
        curve = number_lt 10 2 32 l3 code l4 e4;
        cp1 = two.first;
        cp2 = two.second;
        plain = two.plain;
      };
      text = write_number 16 16 32 l time l1 (omega arith) e1
          ∙ ap (λ (z : List ℕ). number_text 16 16 32 time ++ z) (write_optional 16 32 l1 place l2 e2
          ∙ ap (λ (z : List ℕ). optional_text 16 32 place ++ z) (write_number 16 8 32 l2 value l3 (omega arith) e3
          ∙ ap (λ (z : List ℕ). number_text 16 8 32 value ++ z) (write_number 10 2 32 l3 code l4 (omega arith) e4
          ∙ ap (λ (z : List ℕ). number_text 10 2 32 code ++ z) two.text)))
          ∙ sym (parts (number_text 16 16 32 time) (optional_text 16 32 place) (number_text 16 8 32 value) (number_text 10 2 32 code) (controls_text code both.0 both.1) l5)
          ∙ ap (λ (z : List ℕ). point_text made ++ z) end;
    }))))))
