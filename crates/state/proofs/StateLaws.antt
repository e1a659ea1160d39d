-- Laws of the stored state: what was packed reads back, and what reads was packed so. Assumes nothing.
use Rattle.std.proofs.lemmas.Option.{none-some, same_Some}
use Rattle.std.specs.Prelude.{None, Option, Some, is_some}
use Prim.Native.Nat.{ℕ, zero, suc, ◌+◌, ◌*◌, ◌/◌, ◌%◌, ◌<◌, ◌≤◌}
use mathlib.Core.Path.{◌≡◌, refl, sym, ap, ◌∙◌}
use mathlib.Core.Bool.{Bool, true, false, ◌&&◌, false≢true}
use mathlib.Core.List.{List, [], ◌∷◌, ◌++◌}
use native.Mathlib.Nat.{mod-eq_of_lt}
use native.Mathlib.Omega.{arith}
use borrow.Author.Tests.{lt-ltb, eqb-true, eq-eqb, ne_eqb}
use lib.Arith.{digits_lt, digits_div, digits_mod}
use lib.Dec.{ltb, eqb}
use lib.ListN.{length, get_or, drop, length-append}
use lib.Ieee.{Float, Format, binary32, binary64, of_bits, to_bits, fits}
use lib.Ieee.Bits.{is_true, of_bits-fits, to_bits-lt, of_bits-to_bits}
use Rattle.numbers.proofs.Tests.{and_left, and_right, and_both, yes}
use Rattle.curve.specs.Curve.{code, controls, curves, curve_of}
use Rattle.curve.proofs.Laws.{code_lt, curve_of-code}
use Rattle.curve.specs.declared.CurveType.TheVariants.{Linear}
use Rattle.points.specs.Points.{every, every_pair}
use Rattle.points.proofs.Laws.{every_append, every_get_d, every_drop}
use Rattle.points.specs.declared.AutomationPoint.{AutomationPoint}
use Rattle.limits.specs.Limits.{has_limit}
use Rattle.limits.specs.declared.Limits.{Limits}
use Rattle.envelope.specs.Envelope.{limits_of, valid_envelope}
use Rattle.envelope.specs.Typed.{typed_curve, typed_position, typed_point, typed_limit, typed}
use Rattle.envelope.proofs.TypedParts.{point_parts, cp1_fits, cp2_fits, parted, target_lt, places_length, places_typed}
use Rattle.envelope.specs.declared.AutomationEnvelope.{AutomationEnvelope}
use Rattle.state.specs.State.{halves, high, low, flag, bit, limit_bits, limit_of, position_word, position_of, flags, pack_settings, pack_point, point_of, pack_points, points_of}
use Rattle.state.specs.State.{state_words}
use Rattle.state.specs.State.{pack, state_of, if_test, unpacked}
use Rattle.state.specs.Promised.{ReadsBack, OneToOne}

-- ---- the parts of a word

pub low_halves : (h : ℕ) {l : ℕ} → l < 0x1_0000_0000 → low (halves h l) ≡ l
low_halves h s = digits_mod h s

pub high_halves : (h : ℕ) {l : ℕ} → l < 0x1_0000_0000 → high (halves h l) ≡ h
high_halves h s = digits_div h s

pub flag_lt : (b : Bool) → flag b < 2
flag_lt true = omega arith
flag_lt false = omega arith

flag_back : (b : Bool) {n : ℕ} → n ≡ flag b → eqb n 1 ≡ b
flag_back true e = eq-eqb _ 1 e
flag_back false e = rw e

-- ---- a number or none

limit_back : (l : Option Float) {b : Bool} {n : ℕ} → typed_limit l ≡ true → b ≡ has_limit l → n ≡ limit_bits l → limit_of b n ≡ l
limit_back None t e k = rw e
limit_back (Some x) t e k = rw (e, k) (ap Some (of_bits-to_bits binary32 x (yes t)))

limit_lt : (l : Option Float) → typed_limit l ≡ true → limit_bits l < 0x1_0000_0000
limit_lt None t = omega arith
limit_lt (Some x) t = to_bits-lt binary32 x (yes t)

position_back : (p : Option ℕ) {b : Bool} → b ≡ is_some p → position_of b (position_word p) ≡ p
position_back None e = rw e
position_back (Some n) e = rw e

-- ---- a point

point_back : (p : AutomationPoint) (l : List ℕ) → typed_point p ≡ true → point_of (pack_point p ++ l) ≡ p
unfolding pack_point point_of
point_back p l t =
    let typings = point_parts p t in
    let cp1 = cp1_fits p t in
    let cp2 = cp2_fits p t in
    let value-lt : to_bits binary32 p.value < 0x1_0000_0000 = to_bits-lt binary32 p.value (yes typings.2) in
    let cp1-lt : to_bits binary32 (controls p.curve).cp1 < 0x1_0000_0000 = to_bits-lt binary32 (controls p.curve).cp1 (yes cp1) in
    let has = flag (is_some p.sample_position) in
    let tag = code p.curve * 2 + has in
    let tag_is : high (halves tag (to_bits binary32 p.value)) ≡ tag = high_halves tag value-lt in
    let has-lt : has < 2 = flag_lt (is_some p.sample_position) in
    let odd : tag / 1 % 2 ≡ has = omega arith in
    let half : tag / 2 ≡ code p.curve = omega arith in
    λ i. record {
      time = of_bits-to_bits binary64 p.time (yes typings.0) i;
      sample_position = position_back p.sample_position (flag_back (is_some p.sample_position) (ap (λ (n : ℕ). n / 1 % 2) tag_is ∙ odd)) i;
      value = (ap (of_bits binary32) (low_halves tag value-lt) ∙ of_bits-to_bits binary32 p.value (yes typings.2)) i;
      curve = (
          (λ j. curve_of ((ap (λ (n : ℕ). n / 2) tag_is ∙ half) j)
          ((ap (of_bits binary32) (low_halves (to_bits binary32 (controls p.curve).cp2) cp1-lt) ∙ of_bits-to_bits binary32 (controls p.curve).cp1 (yes cp1)) j)
          ((ap (of_bits binary32) (high_halves (to_bits binary32 (controls p.curve).cp2) cp1-lt) ∙ of_bits-to_bits binary32 (controls p.curve).cp2 (yes cp2)) j))
          ∙ curve_of-code p.curve) i;
    }

after_point : (p : AutomationPoint) (l : List ℕ) → drop 4 (pack_point p ++ l) ≡ l
unfolding pack_point
after_point p l = refl

points_back : (l : List AutomationPoint) → every typed_point l ≡ true → points_of (length l) (pack_points l) ≡ l
unfolding points_of pack_points
points_back [] t = refl
points_back (p ∷ l) t =
    λ i. point_back p (pack_points l) (and_left (typed_point p) (every typed_point l) t) i
    ∷ (ap (points_of (length l)) (after_point p (pack_points l)) ∙ points_back l (and_right (typed_point p) (every typed_point l) t)) i

-- ---- the envelope

after_settings : (e : AutomationEnvelope) (l : List ℕ) → drop 4 (pack_settings e ++ l) ≡ l
unfolding pack_settings
after_settings e l = refl

-- five flags in one number
module _ (a b c d e : Bool) where
  five : ℕ
  five = flag a + 2 * flag b + 4 * flag c + 8 * flag d + 16 * flag e

  bits_of_five : (five / 1 % 2 ≡ flag a) × (five / 2 % 2 ≡ flag b) × (five / 4 % 2 ≡ flag c) × (five / 8 % 2 ≡ flag d) × (five / 16 % 2 ≡ flag e)
  unfolding five
  bits_of_five =
      let ha = flag_lt a in
      let hb = flag_lt b in
      let hc = flag_lt c in
      let hd = flag_lt d in
      let he = flag_lt e in
      (omega arith, omega arith, omega arith, omega arith, omega arith)

pub state_of_pack : ReadsBack
unfolding state_of pack pack_settings five
state_of_pack e t =
    let s = parted e t in
    let min-lt : limit_bits e.min_value < 0x1_0000_0000 = limit_lt e.min_value s.least in
    let flags-are : high (halves (flags e.enabled (limits_of e)) e.target) ≡ flags e.enabled (limits_of e) = high_halves (flags e.enabled (limits_of e)) (target_lt e t) in
    let bits = bits_of_five e.enabled (has_limit e.min_value) (has_limit e.max_value) (has_limit e.step_size) e.hard in
    λ i. record {
      target = low_halves (flags e.enabled (limits_of e)) (target_lt e t) i;
      points = record {
        count = e.points.count;
        places = (
            ap (points_of 256) (after_settings e (pack_points e.points.places))
            ∙ ap (λ (n : ℕ). points_of n (pack_points e.points.places)) (sym (places_length e t))
            ∙ points_back e.points.places (places_typed e t)) i;
      };
      enabled = flag_back e.enabled (ap (λ (n : ℕ). n / 1 % 2) flags-are ∙ bits.0) i;
      min_value = limit_back e.min_value s.least (flag_back _ (ap (λ (n : ℕ). n / 2 % 2) flags-are ∙ bits.1)) (low_halves (limit_bits e.max_value) min-lt) i;
      max_value = limit_back e.max_value s.greatest (flag_back _ (ap (λ (n : ℕ). n / 4 % 2) flags-are ∙ bits.2)) (high_halves (limit_bits e.max_value) min-lt) i;
      step_size = limit_back e.step_size s.step (flag_back _ (ap (λ (n : ℕ). n / 8 % 2) flags-are ∙ bits.3)) (mod-eq_of_lt (limit_lt e.step_size s.step)) i;
      hard = flag_back e.hard (ap (λ (n : ℕ). n / 16 % 2) flags-are ∙ bits.4) i;
    }

-- "packed one-to-one": the same words, the same envelope
pub pack_one : OneToOne
pack_one e f t u h = sym (state_of_pack e t) ∙ ap state_of h ∙ state_of_pack f u

-- with hard off the flags are those that stood before F-1
pub soft_flags : (enabled : Bool) (l : Limits) → l.hard ≡ false
    → flags enabled l ≡ flag enabled + 2 * flag (has_limit l.min_value) + 4 * flag (has_limit l.max_value) + 8 * flag (has_limit l.step_size)
soft_flags enabled l h = let none : flag l.hard ≡ 0 = ap flag h in omega arith

-- and words with none of the flags from 16 on read as hard off
pub soft_read : (w : List ℕ) → high (get_or w 0 0) < 16 → (state_of w).hard ≡ false
unfolding state_of
soft_read w h = ne_eqb (high (get_or w 0 0) / 16 % 2) 1 (λ e. omega arith)

-- ---- "1,028 words"

pub length-settings : (e : AutomationEnvelope) → length (pack_settings e) ≡ 4
unfolding pack_settings
length-settings e = refl

pub length-point : (p : AutomationPoint) → length (pack_point p) ≡ 4
unfolding pack_point
length-point p = refl

pub length-points : (l : List AutomationPoint) → length (pack_points l) ≡ 4 * length l
unfolding pack_points
length-points [] = refl
length-points (p ∷ l) = omega (arith, length-append (pack_point p) (pack_points l), length-point p, length-points l)

pub length-places : (e : AutomationEnvelope) → length e.points.places ≡ 256 → length (pack e) ≡ 1028
unfolding pack
length-places e h = omega (arith, length-append (pack_settings e) (pack_points e.points.places), length-settings e, length-points e.points.places)

pub length-pack : (e : AutomationEnvelope) → typed e ≡ true → length (pack e) ≡ 1028
length-pack e t = length-places e (places_length e t)

-- ---- words of 64 bits

abbrev pub word : ℕ → Bool
word n = ltb n 0x1_0000_0000_0000_0000

halves_word : (h l : ℕ) → h < 0x1_0000_0000 → l < 0x1_0000_0000 → word (halves h l) ≡ true
halves_word h l p q = lt-ltb (halves h l) 0x1_0000_0000_0000_0000 (digits_lt p q)

position-word : (p : Option ℕ) → typed_position p ≡ true → word (position_word p) ≡ true
position-word None t = refl
position-word (Some n) t = t

point_words : (p : AutomationPoint) → typed_point p ≡ true → every word (pack_point p) ≡ true
unfolding pack_point
point_words p t =
    let typings = point_parts p t in
    let has = flag (is_some p.sample_position) in
    let tag-lt : code p.curve * 2 + has < 0x1_0000_0000 = omega (arith, code_lt p.curve, flag_lt (is_some p.sample_position)) in
    and_both (lt-ltb (to_bits binary64 p.time) 0x1_0000_0000_0000_0000 (to_bits-lt binary64 p.time (yes typings.0)))
    (and_both (position-word p.sample_position typings.1)
    (and_both (halves_word _ _ (to_bits-lt binary32 (controls p.curve).cp2 (yes (cp2_fits p t))) (to_bits-lt binary32 (controls p.curve).cp1 (yes (cp1_fits p t))))
    (and_both (halves_word _ _ tag-lt (to_bits-lt binary32 p.value (yes typings.2))) refl)))

points_words : (l : List AutomationPoint) → every typed_point l ≡ true → every word (pack_points l) ≡ true
unfolding pack_points
points_words [] t = refl
points_words (p ∷ l) t =
    every_append word (pack_point p) (pack_points l)
    ∙ and_both (point_words p (and_left (typed_point p) (every typed_point l) t)) (points_words l (and_right (typed_point p) (every typed_point l) t))

settings_words : (e : AutomationEnvelope) → typed e ≡ true → word e.points.count ≡ true → every word (pack_settings e) ≡ true
unfolding pack_settings
settings_words e t n =
    let s = parted e t in
    let flags-lt : flags e.enabled (limits_of e) < 0x1_0000_0000 = omega
    (arith, flag_lt e.enabled, flag_lt (has_limit e.min_value), flag_lt (has_limit e.max_value), flag_lt (has_limit e.step_size), flag_lt e.hard) in
    let step-lt : limit_bits e.step_size < 0x1_0000_0000 = limit_lt e.step_size s.step in
    and_both (halves_word _ _ flags-lt (target_lt e t))
    (and_both n
    (and_both (halves_word _ _ (limit_lt e.max_value s.greatest) (limit_lt e.min_value s.least))
    (and_both (lt-ltb (limit_bits e.step_size) 0x1_0000_0000_0000_0000 (omega arith)) refl)))

-- `typed` does not speak of the count, which is a word of its own
pub pack_words : (e : AutomationEnvelope) → typed e ≡ true → word e.points.count ≡ true → every word (pack e) ≡ true
unfolding pack
pack_words e t n =
    every_append word (pack_settings e) (pack_points e.points.places)
    ∙ and_both (settings_words e t n) (points_words e.points.places (places_typed e t))

-- ---- unpacking

same_self : (l : List ℕ) → every_pair eqb l l ≡ true
unfolding every_pair
same_self [] = refl
same_self (n ∷ l) = and_both (eq-eqb n n refl) (same_self l)

same_is : (l m : List ℕ) → every_pair eqb l m ≡ true → l ≡ m
unfolding every_pair
same_is [] [] h = refl
same_is [] (n ∷ m) h = absurd (false≢true h)
same_is (k ∷ l) [] h = absurd (false≢true h)
same_is (k ∷ l) (n ∷ m) h = λ i. eqb-true k n (and_left (eqb k n) (every_pair eqb l m) h) i ∷ same_is l m (and_right (eqb k n) (every_pair eqb l m) h) i

pub unpacked_pack : (e : AutomationEnvelope) → typed e ≡ true → valid_envelope e ≡ true → unpacked (pack e) ≡ Some e
unfolding unpacked
unpacked_pack e t v =
    ap (λ (s : AutomationEnvelope). if_test (valid_envelope s && every_pair eqb (pack s) (pack e)) s) (state_of_pack e t)
    ∙ ap (λ (b : Bool). if_test b e) (and_both v (same_self (pack e)))

passed : {A : Type 0} (b : Bool) (x y : A) → if_test b x ≡ Some y → (b ≡ true) × (x ≡ y)
passed true x y h = (refl, same_Some x y h)
passed false x y h = absurd (none-some y h)

module _ (w : List ℕ) (e : AutomationEnvelope) (h : unpacked w ≡ Some e) where
  test : ((valid_envelope (state_of w) && every_pair eqb (pack (state_of w)) w) ≡ true) × (state_of w ≡ e)
  unfolding unpacked
  test = passed (valid_envelope (state_of w) && every_pair eqb (pack (state_of w)) w) (state_of w) e h

  pub unpacked_is : state_of w ≡ e
  unpacked_is = test.1

  pub unpacked_valid : valid_envelope e ≡ true
  unpacked_valid = ap valid_envelope (sym unpacked_is) ∙ and_left (valid_envelope (state_of w)) (every_pair eqb (pack (state_of w)) w) test.0

  pub unpacked_packs : pack e ≡ w
  unpacked_packs = ap pack (sym unpacked_is) ∙ same_is (pack (state_of w)) w (and_right (valid_envelope (state_of w)) (every_pair eqb (pack (state_of w)) w) test.0)

-- ---- what is read from words of 64 bits has numbers in range of their types

read_fits : (f : Format) (n : ℕ) → fits f (of_bits f n) ≡ true
read_fits f n = is_true (fits f (of_bits f n)) (of_bits-fits f n)

curve_typed : (n : ℕ) (cp1 cp2 : Float) → fits binary32 cp1 ≡ true → fits binary32 cp2 ≡ true → typed_curve (curve_of n cp1 cp2) ≡ true
unfolding curve_of fits controls of_bits
curve_typed n cp1 cp2 p q = every_get_d typed_curve (curves cp1 cp2) n Linear plain all
  where
    plain : typed_curve Linear ≡ true
    plain = refl

    all : every typed_curve (curves cp1 cp2) ≡ true
    all = rw (p, q)

limit_typed : (b : Bool) (n : ℕ) → typed_limit (limit_of b n) ≡ true
limit_typed true n = read_fits binary32 n
limit_typed false n = refl

position_typed : (b : Bool) (n : ℕ) → word n ≡ true → typed_position (position_of b n) ≡ true
position_typed true n h = h
position_typed false n h = refl

point_typed : (w : List ℕ) → every word w ≡ true → typed_point (point_of w) ≡ true
unfolding point_of
point_typed w h =
    and_both
    (and_both (and_both (read_fits binary64 (get_or w 0 0)) (position_typed (bit 1 (high (get_or w 3 0))) (get_or w 1 0) (every_get_d word w 1 0 refl h))) (read_fits binary32 (low (get_or w 3 0))))
    (curve_typed (high (get_or w 3 0) / 2) _ _ (read_fits binary32 (low (get_or w 2 0))) (read_fits binary32 (high (get_or w 2 0))))

points_typed : (n : ℕ) (w : List ℕ) → every word w ≡ true → every typed_point (points_of n w) ≡ true
unfolding points_of
points_typed zero w h = refl
points_typed (suc n) w h = and_both (point_typed w h) (points_typed n (drop 4 w) (every_drop word 4 w h))

pub length-points_of : (n : ℕ) (w : List ℕ) → length (points_of n w) ≡ n
unfolding points_of
length-points_of zero w = refl
length-points_of (suc n) w = ap suc (length-points_of n (drop 4 w))

pub state_of_typed : (w : List ℕ) → every word w ≡ true → typed (state_of w) ≡ true
unfolding typed state_of
state_of_typed w h =
    let target : low (get_or w 0 0) < 0x1_0000_0000 = omega arith in
    and_both
    (and_both
    (and_both (and_both (lt-ltb (low (get_or w 0 0)) 0x1_0000_0000 target) (limit_typed (bit 2 (high (get_or w 0 0))) (low (get_or w 2 0))))
    (limit_typed (bit 4 (high (get_or w 0 0))) (high (get_or w 2 0))))
    (limit_typed (bit 8 (high (get_or w 0 0))) (low (get_or w 3 0))))
    (and_both (eq-eqb (length (points_of 256 (drop 4 w))) 256 (length-points_of 256 (drop 4 w))) (points_typed 256 (drop 4 w) (every_drop word 4 w h)))

pub unpacked_typed : (w : List ℕ) (e : AutomationEnvelope) → every word w ≡ true → unpacked w ≡ Some e → typed e ≡ true
unpacked_typed w e h u = ap typed (sym (unpacked_is w e u)) ∙ state_of_typed w h

-- ---- states one after the other

-- one of as many as fit in n words lies in them
pub slot_fits : (p n : ℕ) → p < n / state_words → p * state_words + state_words ≤ n
slot_fits p n h = omega arith
