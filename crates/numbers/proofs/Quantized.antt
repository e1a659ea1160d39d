-- Dividing by a grid, rounding and multiplying by it each keep the order, so quantizing does: `KeepsOrder` of specs/Promised. Assumes nothing.
use Rattle.std.proofs.Common.{◌≡◌, ℕ, zero, suc, ◌+◌, ◌*◌, ◌/◌, ◌<◌, ◌≤◌, Bool, true, false, ◌&&◌, ◌||◌, eqb, ltb, ℤ, pos, sym, refl, ap, ◌∙◌, mul-le-mul_right, zero-lt-suc, mul_assoc, mul_comm, add-mul, mul-pos, zero-mul, mul_left_comm, arith, ltb-false, le-ltb, lt-ltb}
use mathlib.Core.Bool.{false≢true}
use lib.Dec.{eqb-suc-zero}
use lib.Ieee.{Float, nan, inf, fin, Format, binary64, up, down, round, mul, div, le, lt, eq, is_nan}
use lib.Ieee.Fits.{up_pos, down_pos, mul-fits}
use lib.Ieee.Nearest.{div_mono}
use Rattle.std.specs.Float.{round_with}
use Rattle.numbers.specs.Whole.{round_away, nearest_multiple}
use Rattle.numbers.specs.Bounds.{finite}
use Rattle.numbers.specs.Order.{before, order_key}
use Rattle.numbers.proofs.OrderLaws.{before_key}
use Rattle.numbers.proofs.BitLaws.{zero_bits}
use Rattle.numbers.proofs.Compare.{finite_number}
use Rattle.numbers.proofs.Halves.{away_is}
use Rattle.numbers.specs.Promised.{KeepsOrder}
use Rattle.numbers.proofs.Rounds.{Rounds, keeps_order, gives_number}

-- ---- the fractions are in the order of the sizes: a / p ≤ b / q

div_cross : (a p b q g h : ℕ) → a * q ≤ b * p → a * g * (h * q) ≤ b * g * (h * p)
div_cross a p b q g h l = simp (mul_assoc, mul_comm, mul_left_comm) (simp (mul_assoc, mul_comm) at (mul-le-mul_right (g * h) l))

mul_cross : (a p b q g h : ℕ) → a * q ≤ b * p → a * h * (q * g) ≤ b * h * (p * g)
mul_cross a p b q g h l = simp (mul_assoc, mul_comm, mul_left_comm) (simp (mul_assoc, mul_comm) at (mul-le-mul_right (h * g) l))

-- the whole number nearest to each, halves up
half_cross : (a p b q : ℕ) → 0 < p → 0 < q → a * q ≤ b * p → (2 * a + p) / (2 * p) * 1 ≤ (2 * b + q) / (2 * q) * 1
half_cross a p b q P Q l = mul-le-mul_right 1 (div_mono (2 * a + p) (2 * p) (2 * b + q) (2 * q) (omega arith) (omega arith) (omega (arith, spread a p q, spread b q p, mul_comm p q)))
  where
    spread : (a p q : ℕ) → (2 * a + p) * (2 * q) ≡ 4 * (a * q) + 2 * (p * q)
    spread a p q =
        let x : 2 * a * (2 * q) ≡ 2 * (2 * (a * q)) = simp (mul_assoc, mul_left_comm) in
        omega (arith, add-mul (2 * a) p (2 * q), mul_left_comm p 2 q)

-- ---- the three operations

rounding : (f : Format) → Rounds f (round_away f)
unfolding round_with
rounding f = record {
  num = λ m e. (2 * (m * up e) + down e) / (2 * down e);
  den = λ e. 1;
  at_inf = λ s. refl;
  at_fin = away_is f;
  above = λ e. zero-lt-suc 0;
  cross = λ m k e c. half_cross (m * up e) (down e) (k * up c) (down c) (down_pos e) (down_pos c);
}

module _ (f : Format) (n : ℕ) (d : ℤ) where
  -- a grid above 0
  abbrev grid : Float
  grid = fin false (suc n) d

  div_inf : (s : Bool) → div f (inf s) grid ≡ inf s
  unfolding div
  div_inf true = refl
  div_inf false = refl

  div_fin : (s : Bool) (m : ℕ) (e : ℤ) → div f (fin s m e) grid ≡ round f s (m * up e * down d) (suc n * up d * down e)
  unfolding div
  div_fin true m e = rw eqb-suc-zero
  div_fin false m e = rw eqb-suc-zero

  dividing : Rounds f (λ x. div f x grid)
  dividing = record {
    num = λ m e. m * up e * down d;
    den = λ e. suc n * up d * down e;
    at_inf = div_inf;
    at_fin = div_fin;
    above = λ e. mul-pos (mul-pos (zero-lt-suc n) (up_pos d)) (down_pos e);
    cross = λ m k e c. div_cross (m * up e) (down e) (k * up c) (down c) (down d) (suc n * up d);
  }

  mul_inf : (s : Bool) → mul f (inf s) grid ≡ inf s
  unfolding mul
  mul_inf true = rw eqb-suc-zero
  mul_inf false = rw eqb-suc-zero

  mul_fin : (s : Bool) (m : ℕ) (e : ℤ) → mul f (fin s m e) grid ≡ round f s (m * up e * (suc n * up d)) (down e * down d)
  unfolding mul
  mul_fin true m e = refl
  mul_fin false m e = refl

  multiplying : Rounds f (λ x. mul f x grid)
  multiplying = record {
    num = λ m e. m * up e * (suc n * up d);
    den = λ e. down e * down d;
    at_inf = mul_inf;
    at_fin = mul_fin;
    above = λ e. mul-pos (down_pos e) (down_pos d);
    cross = λ m k e c. mul_cross (m * up e) (down e) (k * up c) (down c) (down d) (suc n * up d);
  }

-- ---- one after another

quantized_order : (n : ℕ) (d : ℤ) (x y : Float) → is_nan x ≡ false → is_nan y ≡ false → before y x ≡ false
    → before (nearest_multiple binary64 (fin false (suc n) d) y) (nearest_multiple binary64 (fin false (suc n) d) x) ≡ false
quantized_order n d x y p q h =
    let D = dividing binary64 n d in
    let R = rounding binary64 in
    let p₁ = gives_number D x p in
    let q₁ = gives_number D y q in
    keeps_order (multiplying binary64 n d) _ _ (gives_number R _ p₁) (gives_number R _ q₁) (keeps_order R _ _ p₁ q₁ (keeps_order D x y p q h))

-- ---- a finite grid is above 0 where it isn't at most 0

minus_most : (n : ℕ) (d : ℤ) → le (fin true n d) (fin false 0 (pos 0)) ≡ true
unfolding le lt eq
minus_most n d = rw (zero-mul (down d)) (go (n * up d * 1))
  where
    go : (a : ℕ) → (ltb 0 (a + 0) || (eqb a 0 && eqb a 0)) ≡ true
    go zero = refl
    go (suc a) = rw (lt-ltb 0 (suc a + 0) (omega arith))

zero_most : (d : ℤ) → le (fin false 0 d) (fin false 0 (pos 0)) ≡ true
unfolding le lt eq
zero_most d = rw (zero-mul (up d), zero-mul (down d))

pub quantized_keeps_order : KeepsOrder
unfolding finite
quantized_keeps_order nan a b g l F G p q h = absurd (false≢true g)
quantized_keeps_order (inf s) a b g l F G p q h = absurd (false≢true g)
quantized_keeps_order (fin true n d) a b g l F G p q h = absurd (false≢true (sym l ∙ ap (le (fin true n d)) (zero_bits binary64) ∙ minus_most n d))
quantized_keeps_order (fin false zero d) a b g l F G p q h = absurd (false≢true (sym l ∙ ap (le (fin false 0 d)) (zero_bits binary64) ∙ zero_most d))
quantized_keeps_order (fin false (suc n) d) a b g l F G p q h =
    let grid = fin false (suc n) d in
    ltb-false (order_key (nearest_multiple binary64 grid b)) (order_key (nearest_multiple binary64 grid a))
    (sym (before_key (nearest_multiple binary64 grid b) (nearest_multiple binary64 grid a) (mul-fits binary64 _ _) (mul-fits binary64 _ _))
    ∙ quantized_order n d a b (finite_number a p) (finite_number b q) (before_key b a G F ∙ le-ltb (order_key b) (order_key a) h))
