-- A record's numbers mean the record, and the numbers that mean a record are its own. Assumes nothing.
use Rattle.std.specs.Prelude.{None, Option, Some}
use Prim.Native.Nat.{ℕ, ◌^◌, ◌<◌}
use mathlib.Core.Path.{◌≡◌, refl, sym, ap, ◌∙◌}
use mathlib.Core.Bool.{Bool, true, false, cond, ◌&&◌}
use native.Mathlib.Omega.{arith}
use lib.Dec.{eqb}
use lib.Ieee.{Float, binary32, binary64, of_bits, to_bits}
use borrow.Author.Tests.{ltb-true, eqb-true, eqb-false}
use lib.Ieee.Bits.{to_bits-lt, of_bits-to_bits}
use Rattle.numbers.proofs.Tests.{yes}
use Rattle.numbers.specs.Bounds.{finite}
use Rattle.numbers.proofs.BitLaws.{pattern_back}
use Rattle.curve.specs.Curve.{code, controls, curve_of, known, finite_controls}
use Rattle.curve.proofs.Laws.{code_lt, code_known, curve_of-code, code_curve_of, plain_controls}
use Rattle.curve.specs.declared.Controls.{Controls}
use Rattle.curve.specs.declared.CurveType.{CurveType}
use Rattle.points.proofs.CheckLaws.{never}
use Rattle.points.specs.Point.{finite_point}
use Rattle.points.specs.Refusal.{Said, gives}
use Rattle.points.specs.declared.AutomationPoint.{AutomationPoint}
use Rattle.points.specs.declared.Points.{Points}
use Rattle.limits.specs.Limits.{finite_limit, finite_limits}
use Rattle.envelope.specs.Envelope.{limits_of}
use Rattle.envelope.specs.Typed.{typed_position, typed_point, typed_limit}
use Rattle.envelope.specs.declared.AutomationEnvelope.{AutomationEnvelope}
use Rattle.lines.specs.Lines.{check, limit_of, finite_bits, settings_meaning, point_meaning}
use Rattle.sheet.specs.Sheet.{envelope_from}
use Rattle.sheet.specs.Text.{limit_bits, raw_settings, raw_point}
use Rattle.fields.specs.Told.{Below}
use Rattle.lines.specs.declared.settings.RawSettings.{RawSettings}
use Rattle.lines.specs.declared.settings.Settings.{Settings}
use Rattle.lines.specs.declared.point.RawPoint.{RawPoint}
use Rattle.sheet.proofs.LineForms.{FineSettings, FinePoint}
use Rattle.points.proofs.ValidLaws.{finite_time, finite_value, finite_cp1, finite_cp2}
use Rattle.envelope.proofs.TypedParts.{point_parts, cp1_fits, cp2_fits, Parts}
use Rattle.limits.proofs.LimitLaws.{finite_min, finite_max, finite_step}

-- ---- tests passed

unchecked : {A C : Type 0} (t : Bool) (n : ℕ) (x : Said A) {a : A} → check t n x ≡ gives a → (t ≡ true → x ≡ gives a → C) → C
unchecked true n x e f = f refl e
unchecked false n x e f = never e

-- ---- limits

limit_read : (p : Option Float) → typed_limit p ≡ true → limit_of (limit_bits p) ≡ p
unfolding limit_of
limit_read None t = refl
limit_read (Some x) t = ap Some (of_bits-to_bits binary32 x (yes t))

limit_finite : (p : Option Float) → typed_limit p ≡ true → finite_limit p ≡ true → finite_bits (limit_bits p) ≡ true
unfolding finite_bits
limit_finite None t f = refl
limit_finite (Some x) t f = rw (of_bits-to_bits binary32 x (yes t)) f

limit_lt : (p : Option Float) → typed_limit p ≡ true → Below (16 ^ 8) (limit_bits p)
limit_lt None t = tt
limit_lt (Some x) t = omega (arith, to_bits-lt binary32 x (yes t))

limit_back : (o : Option ℕ) → Below (16 ^ 8) o → finite_bits o ≡ true → limit_bits (limit_of o) ≡ o
unfolding limit_of finite_bits
limit_back None h f = refl
limit_back (Some n) h f = ap Some (pattern_back binary32 n (omega arith) f)

back_finite : (o : Option ℕ) → finite_bits o ≡ finite_limit (limit_of o)
unfolding limit_of finite_bits
back_finite None = refl
back_finite (Some n) = refl

-- ---- settings

flag_read : (b : Bool) → eqb (cond b 1 0) 1 ≡ b
flag_read true = refl
flag_read false = refl

flag_back : (n : ℕ) → n < 2 ^ 1 → cond (eqb n 1) 1 0 ≡ n
flag_back n h = on (eqb n 1) refl
  where
    on : (t : Bool) → eqb n 1 ≡ t → cond t 1 0 ≡ n
    on true e = sym (eqb-true n 1 e)
    on false e = omega (arith, eqb-false n 1 e)

-- an envelope's settings
abbrev pub settings_of : AutomationEnvelope → Settings
settings_of e = record { target = e.target; enabled = e.enabled; min = e.min_value; max = e.max_value; step = e.step_size; hard = e.hard }

-- where its numbers are in range of their types
module _ (e : AutomationEnvelope) (t : Parts e) where
  pub settings_read : finite_limits (limits_of e) ≡ true → settings_meaning (raw_settings e) ≡ gives (settings_of e)
  unfolding settings_meaning raw_settings
  settings_read f =
      rw (
        limit_finite e.min_value t.least (finite_min (limits_of e) f),
        limit_finite e.max_value t.greatest (finite_max (limits_of e) f),
        limit_finite e.step_size t.step (finite_step (limits_of e) f),
        flag_read e.enabled,
        flag_read e.hard,
        limit_read e.min_value t.least,
        limit_read e.max_value t.greatest,
        limit_read e.step_size t.step,
      )

  pub settings_fine : e.target < 2 ^ 32 → FineSettings (raw_settings e)
  unfolding raw_settings
  settings_fine h = record {
    target = h;
    enabled = small e.enabled;
    min = limit_lt e.min_value t.least;
    max = limit_lt e.max_value t.greatest;
    step = limit_lt e.step_size t.step;
    hard = small e.hard;
  }
    where
      small : (b : Bool) → cond b 1 0 < 2 ^ 1
      small true = omega arith
      small false = omega arith

raw : ℕ → ℕ → Option ℕ → Option ℕ → Option ℕ → ℕ → RawSettings
raw target enabled a b c hard = record { target = target; enabled = enabled; min = a; max = b; step = c; hard = hard }

-- what the numbers of a settings line say that mean settings
record SettingsMeant (r : RawSettings) (s : Settings) : Type 0 where
  is : record { target = r.target; enabled = eqb r.enabled 1; min = limit_of r.min; max = limit_of r.max; step = limit_of r.step; hard = eqb r.hard 1 } ≡ s
  min : finite_bits r.min ≡ true
  max : finite_bits r.max ≡ true
  step : finite_bits r.step ≡ true

settings_meant : (r : RawSettings) (s : Settings) → settings_meaning r ≡ gives s → SettingsMeant r s
unfolding settings_meaning
settings_meant r s m =
    unchecked (finite_bits r.min) 3 _ m (λ a m1.
    unchecked (finite_bits r.max) 3 _ m1 (λ b m2.
    unchecked (finite_bits r.step) 3 _ m2 (λ c m3.
    record { is = cc; min = a; max = b; step = c })))

module _ (r : RawSettings) (s : Settings) (ps : Points) (m : settings_meaning r ≡ gives s) where
  pub back_limits : finite_limits (limits_of (envelope_from s ps)) ≡ true
  back_limits =
      let k = settings_meant r s m in
      ap (λ (x : Settings). finite_limits (limits_of (envelope_from x ps))) (sym k.is)
      ∙ rw (← back_finite r.min, ← back_finite r.max, ← back_finite r.step, k.min, k.max, k.step)

  pub settings_back : FineSettings r → raw_settings (envelope_from s ps) ≡ r
  unfolding raw_settings raw
  settings_back fine =
      let k = settings_meant r s m in
      let hard : ℕ = cond (eqb r.hard 1) 1 0 in
      ap (λ (x : Settings). raw_settings (envelope_from x ps)) (sym k.is)
      ∙ ap (λ (n : ℕ). raw r.target n (limit_bits (limit_of r.min)) (limit_bits (limit_of r.max)) (limit_bits (limit_of r.step)) hard) (flag_back r.enabled fine.enabled)
      ∙ ap (λ (o : Option ℕ). raw r.target r.enabled o (limit_bits (limit_of r.max)) (limit_bits (limit_of r.step)) hard) (limit_back r.min fine.min k.min)
      ∙ ap (λ (o : Option ℕ). raw r.target r.enabled r.min o (limit_bits (limit_of r.step)) hard) (limit_back r.max fine.max k.max)
      ∙ ap (λ (o : Option ℕ). raw r.target r.enabled r.min r.max o hard) (limit_back r.step fine.step k.step)
      ∙ ap (λ (n : ℕ). raw r.target r.enabled r.min r.max r.step n) (flag_back r.hard fine.hard)

-- ---- points

position_lt : (p : Option ℕ) → typed_position p ≡ true → Below (16 ^ 16) p
position_lt None t = tt
position_lt (Some n) t = omega (arith, ltb-true n 0x1_0000_0000_0000_0000 t)

-- the numbers are numbers of their types
module _ (p : AutomationPoint) (t : typed_point p ≡ true) where
  pub point_read : finite_point p ≡ true → point_meaning (raw_point p) ≡ gives p
  unfolding point_meaning raw_point
  point_read f =
      rw (
        of_bits-to_bits binary64 p.time (yes (point_parts p t).0),
        of_bits-to_bits binary32 p.value (yes (point_parts p t).2),
        of_bits-to_bits binary32 (controls p.curve).cp1 (yes (cp1_fits p t)),
        of_bits-to_bits binary32 (controls p.curve).cp2 (yes (cp2_fits p t)),
        finite_time p f,
        finite_value p f,
        code_known p.curve,
        finite_cp1 p f,
        finite_cp2 p f,
        curve_of-code p.curve,
      )

  no_bits : (c : CurveType) → (code c ≡ 5 → ⊥) → (to_bits binary32 (controls c).cp1 ≡ 0) × (to_bits binary32 (controls c).cp2 ≡ 0)
  unfolding of_bits to_bits
  no_bits c h = (ap (λ (k : Controls). to_bits binary32 k.cp1) (plain_controls c h), ap (λ (k : Controls). to_bits binary32 k.cp2) (plain_controls c h))

  pub point_fine : FinePoint (raw_point p)
  unfolding raw_point
  point_fine = record {
    time = omega (arith, to_bits-lt binary64 p.time (yes (point_parts p t).0));
    position = position_lt p.sample_position (point_parts p t).1;
    value = omega (arith, to_bits-lt binary32 p.value (yes (point_parts p t).2));
    curve = omega (arith, code_lt p.curve);
    cp1 = omega (arith, to_bits-lt binary32 (controls p.curve).cp1 (yes (cp1_fits p t)));
    cp2 = omega (arith, to_bits-lt binary32 (controls p.curve).cp2 (yes (cp2_fits p t)));
    plain = no_bits p.curve;
  }

-- ---- and back

controls_back : (r : RawPoint) → FinePoint r → known r.curve ≡ true → (a b : Float) → to_bits binary32 a ≡ r.cp1 → to_bits binary32 b ≡ r.cp2
    → (to_bits binary32 (controls (curve_of r.curve a b)).cp1 ≡ r.cp1) × (to_bits binary32 (controls (curve_of r.curve a b)).cp2 ≡ r.cp2)
unfolding curve_of controls of_bits to_bits
controls_back r fine k a b e f = on (eqb r.curve 5) refl
  where
    on : (t : Bool) → eqb r.curve 5 ≡ t → (to_bits binary32 (controls (curve_of r.curve a b)).cp1 ≡ r.cp1) × (to_bits binary32 (controls (curve_of r.curve a b)).cp2 ≡ r.cp2)
    on true t = let five = eqb-true
        r.curve 5 t in (ap (λ (n : ℕ). to_bits binary32 (controls (curve_of n a b)).cp1) five ∙ e, ap (λ (n : ℕ). to_bits binary32 (controls (curve_of n a b)).cp2) five ∙ f)
    on false t =
        let other = eqb-false r.curve 5 t in
        let z = fine.plain other in
        let n = plain_controls (curve_of r.curve a b) (λ h. other (sym (code_curve_of r.curve a b k) ∙ h)) in
        (ap (λ (c : Controls). to_bits binary32 c.cp1) n ∙ sym z.0, ap (λ (c : Controls). to_bits binary32 c.cp2) n ∙ sym z.1)

finite_curve : (n : ℕ) (a b : Float) → known n ≡ true → finite a ≡ true → finite b ≡ true → finite_controls (curve_of n a b) ≡ true
unfolding curve_of controls finite_controls finite of_bits
finite_curve n a b k f g = on (eqb n 5) refl
  where
    on : (t : Bool) → eqb n 5 ≡ t → finite_controls (curve_of n a b) ≡ true
    on true t = ap (λ (m : ℕ). finite_controls (curve_of m a b)) (eqb-true n 5 t) ∙ rw (f, g)
    on false t =
        let c = plain_controls (curve_of n a b) (λ h. eqb-false n 5 t (sym (code_curve_of n a b k) ∙ h)) in
        ap (λ (k : Controls). finite k.cp1 && finite k.cp2) c

raw_of : ℕ → Option ℕ → ℕ → ℕ → ℕ → ℕ → RawPoint
raw_of time place value curve a b = record { time = time; position = place; value = value; curve = curve; cp1 = a; cp2 = b }

-- what the numbers of a point's line say that mean a point
record Meant (r : RawPoint) (p : AutomationPoint) : Type 0 where
  is : record {
    time = of_bits binary64 r.time;
    sample_position = r.position;
    value = of_bits binary32 r.value;
    curve = curve_of r.curve (of_bits binary32 r.cp1) (of_bits binary32 r.cp2);
  }
      ≡ p
  time : finite (of_bits binary64 r.time) ≡ true
  value : finite (of_bits binary32 r.value) ≡ true
  curve : known r.curve ≡ true
  cp1 : finite (of_bits binary32 r.cp1) ≡ true
  cp2 : finite (of_bits binary32 r.cp2) ≡ true

meant : (r : RawPoint) (p : AutomationPoint) → point_meaning r ≡ gives p → Meant r p
unfolding point_meaning
meant r p m =
    unchecked (finite (of_bits binary64 r.time)) 3 _ m (λ a m1.
    unchecked (finite (of_bits binary32 r.value)) 3 _ m1 (λ b m2.
    unchecked (known r.curve) 2 _ m2 (λ c m3.
    unchecked (finite (of_bits binary32 r.cp1)) 3 _ m3 (λ d m4.
    unchecked (finite (of_bits binary32 r.cp2)) 3 _ m4 (λ e m5.
    record { is = cc; time = a; value = b; curve = c; cp1 = d; cp2 = e })))))

module _ (r : RawPoint) (p : AutomationPoint) (m : point_meaning r ≡ gives p) where
  pub back_finite_point : finite_point p ≡ true
  back_finite_point =
      let k = meant r p m in
      ap finite_point (sym k.is) ∙ rw (k.time, k.value) (finite_curve r.curve (of_bits binary32 r.cp1) (of_bits binary32 r.cp2) k.curve k.cp1 k.cp2)

  pub point_back : FinePoint r → raw_point p ≡ r
  unfolding raw_point raw_of
  point_back fine =
      let k = meant r p m in
      let a = of_bits binary32 r.cp1 in
      let b = of_bits binary32 r.cp2 in
      let c = curve_of r.curve a b in
      let t = pattern_back binary64 r.time (omega (arith, fine.time)) k.time in
      let v = pattern_back binary32 r.value (omega (arith, fine.value)) k.value in
      let cs = controls_back r fine k.curve a b (pattern_back binary32 r.cp1 (omega (arith, fine.cp1)) k.cp1) (pattern_back binary32 r.cp2 (omega (arith, fine.cp2)) k.cp2) in
      ap raw_point (sym k.is)
      ∙ ap (λ (n : ℕ). raw_of n r.position (to_bits binary32 (of_bits binary32 r.value)) (code c) (to_bits binary32 (controls c).cp1) (to_bits binary32 (controls c).cp2)) t
      ∙ ap (λ (n : ℕ). raw_of r.time r.position n (code c) (to_bits binary32 (controls c).cp1) (to_bits binary32 (controls c).cp2)) v
      ∙ ap (λ (n : ℕ). raw_of r.time r.position r.value n (to_bits binary32 (controls c).cp1) (to_bits binary32 (controls c).cp2)) (code_curve_of r.curve a b k.curve)
      ∙ ap (λ (n : ℕ). raw_of r.time r.position r.value r.curve n (to_bits binary32 (controls c).cp2)) cs.0
      ∙ ap (λ (n : ℕ). raw_of r.time r.position r.value r.curve r.cp1 n) cs.1
