-- Rounding a whole number of a known width, times a power of two, to a format; and the bit pattern of the result. Assumes nothing.
-- `round_at` is over the width w of the number D that is rounded: 53 for the digits of an `f64`, and 64 for a `u64`, whose digits stand at the top of the word.
use Rattle.std.proofs.Common.{◌≡◌, ℕ, zero, suc, ◌+◌, ◌-◌, ◌*◌, ◌/◌, ◌^◌, ◌<◌, ◌≤◌, Bool, true, false, cond, not, T, ltb, ◌⊎◌, sym, refl, ap, ◌∙◌, subst, inl, inr, le_trans, le_of_eq, lt_of_lt_of_le, lt_of_le_of_lt, add_assoc, lt_irrefl, mul-le-mul_right, mul_assoc, suc-mul, mul_comm, div-lt_iff_lt-mul, eq-zero-or-pos, add_comm, le_antisymm, eq-or-lt_of_le, mul-le-mul_left, mul-pos, lt_of_not-le, le-div_iff_mul-le, le_of_mul-le-mul_right, div-one, mul-div_cancel, arith, pow_pos, pow_mono, pow-add, shl_lt, ltb-false, ltb-true, le-ltb}
use native.Mathlib.Nat.{pow-succ'}
use lib.Pow.{pow-lt}
use lib.Ieee.{Float, nan, inf, fin, Format, prec, emax, low, up, down, size, units, odd, round, hid, ones, top, to_bits, of_bits, nan_bits, is_nan, fits}
use lib.Ieee.Digits.{size-lt, size-le}
use lib.Ieee.Fits.{round_is, down_pos, two, reach, two-le_pos}
use lib.Ieee.Exact.{HasValue, units_val}
use lib.Ieee.Nearest.{closest, closest_same}
use lib.Ieee.Bits.{to_bits-lt, of_bits-to_bits, nan_bits_is}
use Rattle.numbers.proofs.Units.{pow_le_back}
use Rattle.numbers.proofs.Closest.{closest_le, closest_ge}

pub pow_lt_back : (i p : ℕ) → 2 ^ i < 2 ^ p → i < p
pow_lt_back i p h = lt_of_not-le (λ (g : p ≤ i). lt_irrefl (2 ^ i) (lt_of_lt_of_le h (pow_mono g)))

-- ---- how many digits round drops of D * 2 ^ x / 2 ^ y, for a D of w digits

cover : (a y : ℕ) → a ≤ a - y + y
cover a y = omega arith

size_upper : (w x y D : ℕ) → D < 2 ^ w → size (D * 2 ^ x / 2 ^ y) ≤ w + x - y
size_upper w x y D h =
    size-le (D * 2 ^ x / 2 ^ y) (w + x - y) ((div-lt_iff_lt-mul (pow_pos y)).1
    (lt_of_lt_of_le (shl_lt w x h) (le_trans (pow_mono (cover (w + x) y)) (le_of_eq (pow-add 2 (w + x - y) y)))))

pub halve : (a b : ℕ) → 2 * a ≤ 2 * b → a ≤ b
halve a b h = omega arith

size_lower : (w x y z D : ℕ) → 2 ^ w ≤ 2 * D → suc z + y ≡ w + x → z < size (D * 2 ^ x / 2 ^ y)
size_lower w x y z D h e =
    let big : 2 ^ (w + x) ≤ 2 * (D * 2 ^ x) = le_trans (le_of_eq (pow-add 2 w x)) (le_trans (mul-le-mul_right (2 ^ x) h) (le_of_eq (mul_assoc 2 D (2 ^ x)))) in
    let two-z : 2 * (2 ^ z * 2 ^ y)
    ≡ 2 ^ (w + x) = sym (mul_assoc 2 (2 ^ z) (2 ^ y)) ∙ ap (λ (n : ℕ). n * 2 ^ y) (sym (pow-succ' 2 z)) ∙ sym (pow-add 2 (suc z) y) ∙ ap (λ (n : ℕ). 2 ^ n) e in
    let at : 2 ^ z ≤ D * 2 ^ x / 2 ^ y = (le-div_iff_mul-le (pow_pos y)).1 (halve (2 ^ z * 2 ^ y) (D * 2 ^ x) (le_trans (le_of_eq two-z) big)) in
    pow_lt_back z (size (D * 2 ^ x / 2 ^ y)) (lt_of_le_of_lt at (size-lt (D * 2 ^ x / 2 ^ y)))

pub dropped : (w x y p D : ℕ) → D < 2 ^ w → (0 < w + x - (y + p) → 2 ^ w ≤ 2 * D) → size (D * 2 ^ x / 2 ^ y) - p ≡ w + x - (y + p)
dropped w x y p D h l = elim (eq-zero-or-pos (w + x - (y + p))) [
  | inl z ↦ none (size (D * 2 ^ x / 2 ^ y)) (w + x) y p (size_upper w x y D h) z
  | inr g ↦ some (size (D * 2 ^ x / 2 ^ y)) (w + x) y p (size_upper w x y D h) g (size_lower w x y (w + x - y - 1) D (l g) (one_less (w + x) y p g))
]
  where
    none : (z a y p : ℕ) → z ≤ a - y → a - (y + p) ≡ 0 → z - p ≡ a - (y + p)
    none z a y p u e = omega arith

    one_less : (a y p : ℕ) → 0 < a - (y + p) → suc (a - y - 1) + y ≡ a
    one_less a y p g = omega arith

    some : (z a y p : ℕ) → z ≤ a - y → 0 < a - (y + p) → a - y - 1 < z → z - p ≡ a - (y + p)
    some z a y p u g k = omega arith

-- ---- D * 2 ^ a / 2 ^ b, rounded: k digits are dropped of its whole part in units, so d of D's
pub round_at : (f : Format) (s : Bool) (w D a b d k : ℕ) → D < 2 ^ w → k ≡ w + (a + low f) - (b + prec f) → (0 < k → 2 ^ w ≤ 2 * D) → d + (a + low f) ≡ b + k
    → round f s (D * 2 ^ a) (2 ^ b) ≡ units f s (closest D (2 ^ d)) k
round_at f s w D a b d k h ke l e =
    let x = a + low f in
    let n : D * 2 ^ a * 2 ^ low f ≡ D * 2 ^ x = mul_assoc D (2 ^ a) (2 ^ low f) ∙ ap (λ (z : ℕ). D * z) (sym (pow-add 2 a (low f))) in
    let drop : size (D * 2 ^ x / 2 ^ b) - prec f ≡ k = dropped w x b (prec f) D h (λ g. l (subst (λ (z : ℕ). 0 < z) (sym ke) g)) ∙ sym ke in
    let cross : D * 2 ^ x * 2 ^ d ≡ D * (2 ^ b * 2 ^ k) =
    mul_assoc D (2 ^ x) (2 ^ d) ∙ ap (λ (z : ℕ). D * z) (sym (pow-add 2 x d) ∙ ap (λ (z : ℕ). 2 ^ z) (add_comm x d ∙ e) ∙ pow-add 2 b k) in
    round_is f s (D * 2 ^ a) (2 ^ b)
    ∙ ap (λ (z : ℕ). units f s (closest z (2 ^ b * 2 ^ (size (z / 2 ^ b) - prec f))) (size (z / 2 ^ b) - prec f)) n
    ∙ ap (λ (z : ℕ). units f s (closest (D * 2 ^ x) (2 ^ b * 2 ^ z)) z) drop
    ∙ ap (λ (z : ℕ). units f s z k) (closest_same (D * 2 ^ x) (2 ^ b * 2 ^ k) D (2 ^ d) (mul-pos (pow_pos b) (pow_pos k)) (pow_pos d) cross)

-- ---- the pattern of q * 2 ^ k units

value_bits : (f : Format) (v : Float) (s : Bool) (N : ℕ) → HasValue v s N (2 ^ low f) → to_bits f v ≡ cond s (top f) 0 + ((size N - prec f) * hid f + N / 2 ^ (size N - prec f))
unfolding to_bits
value_bits f nan s N h = absurd h
value_bits f (inf t) s N h = absurd h
value_bits f (fin t m e) s N h =
    let is : m * up e * 2 ^ low f / down e ≡ N = ap (λ (x : ℕ). x / down e) h.1 ∙ mul-div_cancel N (down_pos e) in
    ap (λ (x : ℕ). cond t (top f) 0 + (size x - prec f) * hid f + x / 2 ^ (size x - prec f)) is
    ∙ ap (λ (b : Bool). cond b (top f) 0 + (size N - prec f) * hid f + N / 2 ^ (size N - prec f)) h.0
    ∙ add_assoc (cond s (top f) 0) ((size N - prec f) * hid f) (N / 2 ^ (size N - prec f))

-- 2 ^ prec is twice the weight of the leading digit
twice_hid : (p : ℕ) → 0 < p → 2 ^ p ≡ 2 * 2 ^ (p - 1)
twice_hid p h = ap (λ (x : ℕ). 2 ^ x) (sym (suc_pred p h)) ∙ pow-succ' 2 (p - 1)
  where
    suc_pred : (p : ℕ) → 0 < p → suc (p - 1) ≡ p
    suc_pred p h = omega arith

prec_pos : (f : Format) → 0 < prec f
prec_pos f = two-le_pos (prec f) (two f)

pub twice : (f : Format) → 2 ^ prec f ≡ 2 * hid f
twice f = twice_hid (prec f) (prec_pos f)

-- what q digits with k zeros after them are written as, for a q of at most prec digits, of prec digits where k is not 0
written : (f : Format) (s : Bool) (v : Float) (q k : ℕ) → q < 2 ^ prec f → (0 < k → hid f ≤ q) → HasValue v s (q * 2 ^ k) (2 ^ low f) → to_bits f v ≡ cond s (top f) 0 + (k * hid f + q)
written f s v q k h l val =
    let p = prec f in
    let z : size (q * 2 ^ k) - p ≡ k =
    ap (λ (x : ℕ). size x - p) (sym (div-one (q * 2 ^ k)))
    ∙ dropped p k 0 p q h (λ g. le_trans (le_of_eq (twice f)) (mul-le-mul_left 2 (l (subst (λ (x : ℕ). 0 < x) (back p k) g))))
    ∙ back p k in
    value_bits f v s (q * 2 ^ k) val
    ∙ ap (λ (x : ℕ). cond s (top f) 0 + (x * hid f + q * 2 ^ k / 2 ^ x)) z
    ∙ ap (λ (x : ℕ). cond s (top f) 0 + (k * hid f + x)) (mul-div_cancel q (pow_pos k))
  where
    back : (p k : ℕ) → p + k - (0 + p) ≡ k
    back p k = omega arith

-- q can also be 2 ^ prec, which is what rounding up can give: the carry goes into the exponent's field
written_up : (f : Format) (s : Bool) (v : Float) (k : ℕ) → HasValue v s (2 ^ prec f * 2 ^ k) (2 ^ low f) → to_bits f v ≡ cond s (top f) 0 + (k * hid f + 2 ^ prec f)
written_up f s v k val =
    let same : 2 ^ prec f * 2 ^ k ≡ hid f * 2 ^ suc k =
    ap (λ (x : ℕ). x * 2 ^ k) (twice f ∙ mul_comm 2 (hid f)) ∙ mul_assoc (hid f) 2 (2 ^ k) ∙ ap (λ (x : ℕ). hid f * x) (sym (pow-succ' 2 k)) in
    written f s v (hid f) (suc k) (pow-lt (less (prec f) (prec_pos f))) (λ g. le_of_eq refl) (subst (λ (x : ℕ). HasValue v s x (2 ^ low f)) same val)
    ∙ ap (λ (x : ℕ). cond s (top f) 0 + x) (carry (suc k * hid f) (k * hid f) (hid f) (2 ^ prec f) (twice f) (suc-mul k (hid f)))
  where
    less : (p : ℕ) → 0 < p → p - 1 < p
    less p h = omega arith

    carry : (x y h w : ℕ) → w ≡ 2 * h → x ≡ y + h → x + h ≡ y + w
    carry x y h w p q = omega arith

-- the largest k, at which q = 2 ^ prec is the infinity
over : (f : Format) (q k : ℕ) → q ≤ 2 ^ prec f → suc k < ones f → 2 ^ (low f + suc (emax f)) ≤ q * 2 ^ k → (q ≡ 2 ^ prec f) × (suc (suc k) ≡ ones f)
over f q k h l g =
    let p = prec f in
    let most : q * 2 ^ k ≤ 2 ^ (p + k) = le_trans (mul-le-mul_right (2 ^ k) h) (le_of_eq (sym (pow-add 2 p k))) in
    let e : suc (suc k) ≡ ones f = top_k p (emax f) k (two f) l (pow_le_back (low f + suc (emax f)) (p + k) (le_trans g most)) in
    let sum : low f + suc (emax f) ≡ p + k = all p (emax f) k (two f) e in
    let g' : 2 ^ p * 2 ^ k ≤ q * 2 ^ k = subst (λ (x : ℕ). x ≤ q * 2 ^ k) (ap (λ (x : ℕ). 2 ^ x) sum ∙ pow-add 2 p k) g in
    (le_antisymm h (le_of_mul-le-mul_right g' (pow_pos k)), e)
  where
    top_k : (p e k : ℕ) → 2 ≤ p → suc k < 2 * e + 1 → e + p - 2 + suc e ≤ p + k → suc (suc k) ≡ 2 * e + 1
    top_k p e k a b c = omega arith

    all : (p e k : ℕ) → 2 ≤ p → suc (suc k) ≡ 2 * e + 1 → e + p - 2 + suc e ≡ p + k
    all p e k a b = omega arith

pub to_bits_inf : (f : Format) (s : Bool) → to_bits f (inf s) ≡ cond s (top f) 0 + ones f * hid f
unfolding to_bits
to_bits_inf f s = refl

at_top : (f : Format) (k : ℕ) → suc (suc k) ≡ ones f → ones f * hid f ≡ k * hid f + 2 ^ prec f
at_top f k e = ap (λ (x : ℕ). x * hid f) (sym e) ∙ more (suc (suc k) * hid f) (suc k * hid f) (k * hid f) (hid f) (2 ^ prec f) (suc-mul (suc k) (hid f)) (suc-mul k (hid f)) (twice f)
  where
    more : (a b c h w : ℕ) → a ≡ b + h → b ≡ c + h → w ≡ 2 * h → a ≡ c + w
    more a b c h w p q r = omega arith

units_over : (f : Format) (s : Bool) (q k : ℕ) → 2 ^ (low f + suc (emax f)) ≤ q * 2 ^ k → units f s q k ≡ inf s
unfolding units
units_over f s q k h = ap (λ (b : Bool). cond b (odd (suc (prec f)) s q k (low f)) (inf s)) (le-ltb (q * 2 ^ k) (2 ^ (low f + suc (emax f))) h)

pub packed : (f : Format) (s : Bool) (q k : ℕ) → q ≤ 2 ^ prec f → (0 < k → hid f ≤ q) → suc k < ones f → to_bits f (units f s q k) ≡ cond s (top f) 0 + (k * hid f + q)
packed f s q k h l r = go (ltb (q * 2 ^ k) (2 ^ (low f + suc (emax f)))) refl
  where
    fine : q * 2 ^ k < 2 ^ (low f + suc (emax f)) → (q ≡ 2 ^ prec f) ⊎ (q < 2 ^ prec f) → to_bits f (units f s q k) ≡ cond s (top f) 0 + (k * hid f + q)
    fine t (inl e) = subst (λ (x : ℕ). to_bits f (units f s x k) ≡ cond s (top f) 0 + (k * hid f + x)) (sym e)
        (written_up f s (units f s (2 ^ prec f) k) k (units_val f s (2 ^ prec f) k (subst (λ (x : ℕ). x * 2 ^ k < 2 ^ (low f + suc (emax f))) e t)))
    fine t (inr g) = written f s (units f s q k) q k g l (units_val f s q k t)

    past : 2 ^ (low f + suc (emax f)) ≤ q * 2 ^ k → to_bits f (units f s q k) ≡ cond s (top f) 0 + (k * hid f + q)
    past g =
        let o = over f q k h r g in
        ap (to_bits f) (units_over f s q k g) ∙ to_bits_inf f s ∙ ap (λ (x : ℕ). cond s (top f) 0 + x) (at_top f k o.1 ∙ ap (λ (x : ℕ). k * hid f + x) (sym o.0))

    go : (b : Bool) → ltb (q * 2 ^ k) (2 ^ (low f + suc (emax f))) ≡ b → to_bits f (units f s q k) ≡ cond s (top f) 0 + (k * hid f + q)
    go true e = fine (ltb-true (q * 2 ^ k) (2 ^ (low f + suc (emax f))) e) (eq-or-lt_of_le h)
    go false e = past (ltb-false (q * 2 ^ k) (2 ^ (low f + suc (emax f))) e)

-- ---- D * 2 ^ a / 2 ^ b, rounded, for a D of w digits: k digits are dropped of its whole part in units, and d of D's
module _ (f : Format) (s : Bool) (w D a b d k : ℕ) (h : D < 2 ^ w) (ke : k ≡ w + (a + low f) - (b + prec f)) (l : 0 < k → 2 ^ w ≤ 2 * D) (e : d + (a + low f) ≡ b + k) where
  -- what is kept has at most prec digits, or is 2 ^ prec
  kept_le : closest D (2 ^ d) ≤ 2 ^ prec f
  kept_le = closest_le D (2 ^ d) (2 ^ prec f) (pow_pos d) (lt_of_lt_of_le h (le_trans (pow_mono (most w (a + low f) b (prec f) d k ke e)) (le_of_eq (pow-add 2 (prec f) d))))
    where
      most : (w x b p d k : ℕ) → k ≡ w + x - (b + p) → d + x ≡ b + k → w ≤ p + d
      most w x b p d k ke e = omega arith

  -- and all of them where digits are dropped
  kept_ge : 0 < k → hid f ≤ closest D (2 ^ d)
  kept_ge g =
      let full : 2 * (hid f * 2 ^ d)
      ≡ 2 ^ w = sym (mul_assoc 2 (hid f) (2 ^ d)) ∙ ap (λ (x : ℕ). x * 2 ^ d) (sym (twice f)) ∙ sym (pow-add 2 (prec f) d)
      ∙ ap (λ (x : ℕ). 2 ^ x) (just w (a + low f) b (prec f) d k ke e g) in
      closest_ge D (2 ^ d) (hid f) (pow_pos d) (halve (hid f * 2 ^ d) D (le_trans (le_of_eq full) (l g)))
    where
      just : (w x b p d k : ℕ) → k ≡ w + x - (b + p) → d + x ≡ b + k → 0 < k → p + d ≡ w
      just w x b p d k ke e g = omega arith

  -- the result's pattern
  pub round_bits : suc k < ones f → to_bits f (round f s (D * 2 ^ a) (2 ^ b)) ≡ cond s (top f) 0 + (k * hid f + closest D (2 ^ d))
  round_bits r = ap (to_bits f) (round_at f s w D a b d k h ke l e) ∙ packed f s (closest D (2 ^ d)) k kept_le kept_ge r

  -- past the largest k it is an infinity
  pub round_over : ones f ≤ suc k → round f s (D * 2 ^ a) (2 ^ b) ≡ inf s
  round_over r =
      round_at f s w D a b d k h ke l e
      ∙ units_over f s (closest D (2 ^ d)) k
      (le_trans (pow_mono (far (prec f) (emax f) k (two f) r)) (le_trans (le_of_eq (pow-add 2 (prec f - 1) k)) (mul-le-mul_right (2 ^ k) (kept_ge (some (prec f) (emax f) k (two f) (reach f) r)))))
    where
      far : (p e k : ℕ) → 2 ≤ p → 2 * e + 1 ≤ suc k → e + p - 2 + suc e ≤ p - 1 + k
      far p e k a b = omega arith

      some : (p e k : ℕ) → 2 ≤ p → p ≤ suc e → 2 * e + 1 ≤ suc k → 0 < k
      some p e k a b c = omega arith

-- ---- a rounded value is no NaN
odd_no_nan : (d : ℕ) (s : Bool) (q k l : ℕ) → T (not (is_nan (odd d s q k l)))
unfolding odd is_nan
odd_no_nan d s zero k l = tt
odd_no_nan d s (suc q) k l = tt

pub units_no_nan : (f : Format) (s : Bool) (q k : ℕ) → T (not (is_nan (units f s q k)))
unfolding units is_nan
units_no_nan f s q k = go (ltb (q * 2 ^ k) (2 ^ (low f + suc (emax f)))) (odd (suc (prec f)) s q k (low f)) (odd_no_nan (suc (prec f)) s q k (low f))
  where
    go : (b : Bool) (v : Float) → T (not (is_nan v)) → T (not (is_nan (cond b v (inf s))))
    go true v n = n
    go false v n = tt

pub round_no_nan : (f : Format) (s : Bool) (num den : ℕ) → T (not (is_nan (round f s num den)))
round_no_nan f s num den = subst (λ (v : Float). T (not (is_nan v))) (sym (round_is f s num den)) (units_no_nan f s _ _)

-- ---- from a pattern back to the float
module _ (f : Format) (x : Float) (n : ℕ) (F : T (fits f x)) (N : T (not (is_nan x))) (e : n ≡ to_bits f x) where
  pub bits_lt : n < 2 * top f
  bits_lt = subst (λ (z : ℕ). z < 2 * top f) (sym e) (to_bits-lt f x F)

  pub bits_back : of_bits f n ≡ x
  bits_back = ap (of_bits f) e ∙ of_bits-to_bits f x F

  pub bits_no_nan : T (not (nan_bits f n))
  bits_no_nan = subst (λ (b : Bool). T (not b)) (sym (nan_bits_is f n ∙ ap is_nan bits_back)) N
