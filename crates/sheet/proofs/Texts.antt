-- How long a sheet's lines are, and the points' lines one after the other. Assumes nothing.
use Prim.Native.Nat.{ℕ, ◌+◌, ◌*◌, ◌≤◌, ◌<◌}
use mathlib.Core.Path.{◌≡◌, refl, sym, ap, ◌∙◌}
use mathlib.Core.Bool.{Bool, true, false}
use mathlib.Core.List.{List, [], ◌∷◌, ◌++◌, append-nil}
use native.Mathlib.Numerals.{add-one}
use native.Mathlib.Omega.{arith}
use borrow.Author.Tests.{eq-eqb, ne_eqb, eqb-true, eqb-false}
use lib.Dec.{eqb}
use lib.ListN.{length, take, get_or, length-append, length-take}
use lib.Seq.{take-suc}
use native.Mathlib.Nat.{add-zero}
use Rattle.std.specs.List.{sum_by}
use Rattle.std.proofs.lemmas.List.Concat.{flat_map-append, length-flat_map}
use Rattle.std.proofs.lemmas.List.Folds.{length-flat_map-take}
use Rattle.points.specs.Points.{list_of}
use Rattle.points.specs.declared.AutomationPoint.{AutomationPoint}
use Rattle.points.proofs.ValidLaws.{valid_count}
use Rattle.envelope.specs.Envelope.{valid_envelope}
use Rattle.envelope.specs.declared.AutomationEnvelope.{AutomationEnvelope}
use Rattle.envelope.proofs.ValidParts.{points_valid}
use Rattle.fields.specs.Text.{number_text, optional_text, places_of, decimal_text}
use Rattle.fields.specs.Told.{Put, Fitted}
use Rattle.fields.proofs.Places.{places_le}
use Rattle.fields.proofs.Stores.{length-number, same_length, length-le, front, back, put_length, put_then, room_after, fit_then}
use Rattle.lines.specs.Lines.{dashes}
use Rattle.lines.specs.declared.settings.RawSettings.{RawSettings}
use Rattle.lines.specs.declared.point.RawPoint.{RawPoint}
use Rattle.sheet.specs.Sheet.{setting_names, point_names}
use Rattle.sheet.specs.Text.{settings_text, controls_text, point_text, raw_settings, raw_point, point_texts, sheet_text}

-- ---- the controls

module _ (code a b : ℕ) where
  pub controls_five : code ≡ 5 → number_text 16 8 32 a ++ number_text 16 8 10 b ≡ controls_text code a b
  controls_five e = rw (eq-eqb code 5 e)

  pub controls_other : (code ≡ 5 → ⊥) → dashes ≡ controls_text code a b
  controls_other e = rw (ne_eqb code 5 e)

  pub five_length : code ≡ 5 → length (controls_text code a b) ≡ 18
  five_length e =
      ap length (sym (controls_five e))
      ∙ omega (arith, length-append (number_text 16 8 32 a) (number_text 16 8 10 b), length-number 16 8 32 a, length-number 16 8 10 b)

  pub other_length : (code ≡ 5 → ⊥) → length (controls_text code a b) ≡ 4
  other_length e = ap length (sym (controls_other e))

pub controls_le : (code a b : ℕ) → length (controls_text code a b) ≤ 18
controls_le code a b = go (eqb code 5) refl
  where
    go : (t : Bool) → eqb code 5 ≡ t → length (controls_text code a b) ≤ 18
    go true e = omega (arith, five_length code a b (eqb-true code 5 e))
    go false e = omega (arith, other_length code a b (eqb-false code 5 e))

-- ---- lines

length-five : (a b c d e : List ℕ) → length (a ++ (b ++ (c ++ (d ++ e)))) ≡ length a + length b + length c + length d + length e
length-five a b c d e = omega (arith, length-append a (b ++ (c ++ (d ++ e))), length-append b (c ++ (d ++ e)), length-append c (d ++ e), length-append d e)

pub settings_length : (r : RawSettings)
    → length (settings_text r) ≡ places_of 10 r.target + 5 + length (optional_text 8 0 r.min) + length (optional_text 8 0 r.max) + length (optional_text 8 0 r.step)
unfolding settings_text
settings_length r =
    omega (
      arith,
      length-five (decimal_text 32 r.target) (number_text 2 1 32 r.enabled) (optional_text 8 32 r.min) (optional_text 8 32 r.max)
          (optional_text 8 32 r.step ++ number_text 2 1 10 r.hard),
      length-append (optional_text 8 32 r.step) (number_text 2 1 10 r.hard),
      length-number 10 (places_of 10 r.target) 32 r.target,
      length-number 2 1 32 r.enabled,
      same_length 8 32 0 r.min,
      same_length 8 32 0 r.max,
      same_length 8 32 0 r.step,
      length-number 2 1 10 r.hard,
    )

pub point_length : (r : RawPoint) → length (point_text r) ≡ 29 + length (optional_text 16 0 r.position) + length (controls_text r.curve r.cp1 r.cp2)
unfolding point_text
point_length r =
    omega (
      arith,
      length-five (number_text 16 16 32 r.time) (optional_text 16 32 r.position) (number_text 16 8 32 r.value) (number_text 10 2 32 r.curve) (controls_text r.curve r.cp1 r.cp2),
      length-number 16 16 32 r.time,
      same_length 16 32 0 r.position,
      length-number 16 8 32 r.value,
      length-number 10 2 32 r.curve,
    )

pub point_le : (r : RawPoint) → length (point_text r) ≤ 65
point_le r = omega (arith, point_length r, length-le 16 0 r.position, controls_le r.curve r.cp1 r.cp2)

pub settings_le : (r : RawSettings) → length (settings_text r) ≤ 45
settings_le r = omega (arith, settings_length r, places_le 10 r.target, length-le 8 0 r.min, length-le 8 0 r.max, length-le 8 0 r.step)

-- the lengths of the fields, and of the lines by theirs
pub ruleset lengths = (length-number, length-le, places_le, five_length, controls_le, settings_length, settings_le, point_length, point_le)

-- ---- the points' lines

pub texts_bound : (ps : List AutomationPoint) → length (point_texts ps) ≤ 65 * length ps
unfolding point_texts
texts_bound [] = omega arith
texts_bound (p ∷ ps) = omega (arith, length-append (point_text (raw_point p)) (point_texts ps), point_le (raw_point p), texts_bound ps)

-- the next line
module _ (l : List AutomationPoint) (i : ℕ) (d : AutomationPoint) (h : i < length l) where
  texts_more : point_texts (take (i + 1) l) ≡ point_texts (take i l) ++ point_text (raw_point (get_or l i d))
  unfolding point_texts
  texts_more =
      let f : AutomationPoint → List ℕ = λ p. point_text (raw_point p) in
      ap (λ (n : ℕ). point_texts (take n l)) (add-one i)
      ∙ ap point_texts (take-suc l i d h)
      ∙ flat_map-append f (take i l) (get_or l i d ∷ [])
      ∙ ap (λ (t : List ℕ). point_texts (take i l) ++ t) (append-nil (f (get_or l i d)))

  -- it has its place, and stands after those before it
  module _ {out₀ out : List ℕ} {start at : ℕ} (p : Put out₀ start (point_texts (take i l)) out at) where
    pub text_fits : start + length (point_texts l) ≤ length out₀ → at + length (point_text (raw_point (get_or l i d))) ≤ length out
    unfolding point_texts
    text_fits e = omega (arith, p.next, put_length p, length-flat_map-take (λ q. point_text (raw_point q)) l i d h)

    pub text_put : {out' : List ℕ} {at' : ℕ} → Put out at (point_text (raw_point (get_or l i d))) out' at' → Put out₀ start (point_texts (take (i + 1) l)) out' at'
    text_put q = rw texts_more (put_then p q)

pub no_texts : (l : List ℕ) (start : ℕ) → Put l start (point_texts []) l start
unfolding point_texts
no_texts l start = record { next = sym (add-zero start); bytes = refl }

-- how long they are together
pub texts_sum : (ps : List AutomationPoint) → length (point_texts ps) ≡ sum_by (λ p. length (point_text (raw_point p))) ps
unfolding point_texts
texts_sum ps = length-flat_map (λ p. point_text (raw_point p)) ps

-- ---- the whole sheet

pub sheet_length : (e : AutomationEnvelope) → length (sheet_text e) ≡ 33 + length (settings_text (raw_settings e)) + 34 + length (point_texts (list_of e.points))
unfolding sheet_text
sheet_length e =
    let s = settings_text (raw_settings e) in
    let ps = point_texts (list_of e.points) in
    omega (arith, length-append setting_names (s ++ (point_names ++ ps)), length-append s (point_names ++ ps), length-append point_names ps)

pub texts_few : (e : AutomationEnvelope) → e.points.count ≤ 256 → length (point_texts (list_of e.points)) ≤ 16640
texts_few e h = omega (arith, texts_bound (list_of e.points), length-take e.points.count e.points.places)

pub few : (e : AutomationEnvelope) → valid_envelope e ≡ true → e.points.count ≤ 256
few e v = valid_count e.points (points_valid e v)

-- ---- texts put one after another

module _ {l l1 l2 l3 l4 u1 u2 u3 u4 : List ℕ} {at n1 n2 n3 n4 : ℕ} (u5 : List ℕ) (h : at + length (u1 ++ (u2 ++ (u3 ++ (u4 ++ u5)))) ≤ length l)
    (f1 : Fitted l at u1 l1 n1) (f2 : Fitted l1 n1 u2 l2 n2) (f3 : Fitted l2 n2 u3 l3 n3) (f4 : Fitted l3 n3 u4 l4 n4) where
  after_one : n1 + length (u2 ++ (u3 ++ (u4 ++ u5))) ≤ length l1
  after_one = room_after f1 (u2 ++ (u3 ++ (u4 ++ u5))) h

  after_two : n2 + length (u3 ++ (u4 ++ u5)) ≤ length l2
  after_two = room_after f2 (u3 ++ (u4 ++ u5)) after_one

  after_three : n3 + length (u4 ++ u5) ≤ length l3
  after_three = room_after f3 (u4 ++ u5) after_two

  -- the fifth has its place, and all stand there
  pub fifth_room : n4 + length u5 ≤ length l4
  fifth_room = room_after f4 u5 after_three

  pub five_put : {m : List ℕ} {n : ℕ} → Put l4 n4 u5 m n → Put l at (u1 ++ (u2 ++ (u3 ++ (u4 ++ u5)))) m n
  five_put p = fit_then f1 (u2 ++ (u3 ++ (u4 ++ u5))) h (fit_then f2 (u3 ++ (u4 ++ u5)) after_one (fit_then f3 (u4 ++ u5) after_two (fit_then f4 u5 after_three p)))

module _ {l l1 l2 l3 l4 l5 u1 u2 u3 u4 u5 : List ℕ} {at n1 n2 n3 n4 n5 : ℕ} (u6 : List ℕ) (h : at + length (u1 ++ (u2 ++ (u3 ++ (u4 ++ (u5 ++ u6))))) ≤ length l)
    (f1 : Fitted l at u1 l1 n1) (f2 : Fitted l1 n1 u2 l2 n2) (f3 : Fitted l2 n2 u3 l3 n3) (f4 : Fitted l3 n3 u4 l4 n4) (f5 : Fitted l4 n4 u5 l5 n5) where
  -- the sixth has its place, and all stand there
  pub sixth_room : n5 + length u6 ≤ length l5
  sixth_room = room_after f5 u6 (fifth_room (u5 ++ u6) h f1 f2 f3 f4)

  pub six_put : {m : List ℕ} {n : ℕ} → Put l5 n5 u6 m n → Put l at (u1 ++ (u2 ++ (u3 ++ (u4 ++ (u5 ++ u6))))) m n
  six_put p = five_put (u5 ++ u6) h f1 f2 f3 f4 (fit_then f5 u6 (fifth_room (u5 ++ u6) h f1 f2 f3 f4) p)

-- the names, the settings, the names and the points' lines
module _ (e : AutomationEnvelope) {l l1 : List ℕ} {a : ℕ} (h : length (sheet_text e) ≤ length l) (f1 : Fitted l 0 setting_names l1 a) where
  unfoldable points_text : List ℕ
  points_text = point_texts (list_of e.points)

  whole : 0 + length (setting_names ++ (settings_text (raw_settings e) ++ (point_names ++ points_text))) ≤ length l
  unfolding sheet_text points_text
  whole = omega (arith, h)

  after_names : a + length (settings_text (raw_settings e) ++ (point_names ++ points_text)) ≤ length l1
  after_names = room_after f1 (settings_text (raw_settings e) ++ (point_names ++ points_text)) whole

  pub settings_room : a + length (settings_text (raw_settings e)) ≤ length l1
  settings_room = front a l1 (settings_text (raw_settings e)) (point_names ++ points_text) after_names

  module _ {l2 l3 : List ℕ} {b c : ℕ} (p2 : Put l1 a (settings_text (raw_settings e)) l2 b) (f3 : Fitted l2 b point_names l3 c) where
    after_settings : b + length (point_names ++ points_text) ≤ length l2
    after_settings = back p2 (point_names ++ points_text) after_names

    pub points_room : c + length (point_texts (list_of e.points)) ≤ length l3
    unfolding points_text
    points_room = room_after f3 points_text after_settings

    pub sheet_put : {m : List ℕ} {n : ℕ} → Put l3 c (point_texts (list_of e.points)) m n → Put l 0 (sheet_text e) m n
    unfolding sheet_text points_text
    sheet_put p4 = fit_then f1 (settings_text (raw_settings e) ++ (point_names ++ points_text)) whole (put_then p2 (fit_then f3 points_text after_settings p4))
