-- `narrow` of an `f64` read from its pattern b: by the exponent's field, the pattern of the result. Assumes nothing.
-- The field is j + 1, the digits with the leading one are D = 2 ^ 52 + t, and the value is D * 2 ^ j / 2 ^ 1074.
use Rattle.std.proofs.Common.{◌≡◌, ℕ, zero, suc, ◌+◌, ◌-◌, ◌*◌, ◌/◌, ◌%◌, ◌^◌, ◌<◌, ◌≤◌, Bool, true, false, cond, not, T, eqb, leb, ◌⊎◌, sym, refl, ap, ◌∙◌, subst, inl, inr, le_trans, lt_of_lt_of_le, le_of_suc-le-suc, add-zero, lt_irrefl, mod-lt, mod-eq_of_lt, eq-or-lt_of_le, zero-add, arith, lit<, lit≤, leb→le, pow_pos, pow_mono, ne_eqb}
use lib.Pow.{field}
use lib.Ieee.{Float, nan, inf, fin, binary32, binary64, up, down, odd, round, of_fields, of_bits, to_bits, is_nan, fits}
use lib.Ieee.Fits.{down_pos, round-fits, nan-fits, inf-fits}
use lib.Ieee.Exact.{HasValue, odd_sign}
use lib.Ieee.Scale.{round_same}
use lib.Ieee.Nearest.{closest}
use lib.Dec.{nleb→lt}
use borrow.Author.Tests.{lt-leb}
use Rattle.numbers.specs.Narrow.{narrow}
use Rattle.numbers.proofs.Closest.{carried, closest_zero}
use Rattle.numbers.proofs.Rounded.{round_bits, round_over, round_no_nan, to_bits_inf}

-- what a value of a known size narrows to
narrow_val : (x : Float) (s : Bool) (a c : ℕ) → 0 < c → HasValue x s a c → narrow x ≡ round binary32 s a c
unfolding narrow
narrow_val nan s a c p h = absurd h
narrow_val (inf t) s a c p h = absurd h
narrow_val (fin t m e) s a c p h = ap (λ (b : Bool). round binary32 b (m * up e) (down e)) h.0 ∙ round_same binary32 s (m * up e) (down e) a c (down_pos e) p h.1

narrow_inf : (s : Bool) → narrow (inf s) ≡ inf s
unfolding narrow
narrow_inf s = refl

pub narrow_fits : (x : Float) → T (fits binary32 (narrow x))
unfolding narrow
narrow_fits nan = nan-fits binary32
narrow_fits (inf s) = inf-fits binary32 s
narrow_fits (fin s m e) = round-fits binary32 s (m * up e) (down e)

pub narrow_number : (x : Float) → T (not (is_nan x)) → T (not (is_nan (narrow x)))
unfolding narrow is_nan
narrow_number nan n = absurd n
narrow_number (inf s) n = tt
narrow_number (fin s m e) n = round_no_nan binary32 s (m * up e) (down e)

abbrev pub sign : Bool → ℕ
sign s = cond s (2 ^ 31) 0

-- ---- by the fields
module _ (s : Bool) (t : ℕ) (h : t < 2 ^ 52) where
  abbrev D : ℕ
  D = 2 ^ 52 + t

  D-lt : D < 2 ^ 53
  D-lt = go t h
    where
      go : (t : ℕ) → t < 4503599627370496 → 4503599627370496 + t < 9007199254740992
      go t h = omega arith

  D-ge : 2 ^ 53 ≤ 2 * D
  D-ge = go t
    where
      go : (t : ℕ) → 9007199254740992 ≤ 2 * (4503599627370496 + t)
      go t = omega arith

  -- half of D is below the first power of two that is dropped
  none : (n d : ℕ) → n < 2 ^ 53 → 54 ≤ d → closest n (2 ^ d) ≡ 0
  none n d a b = closest_zero n (2 ^ d) (lt_of_lt_of_le (double n a) (pow_mono b))
    where
      double : (n : ℕ) → n < 9007199254740992 → n * 2 < 18014398509481984
      double n a = omega arith

  -- a field of 0: below the smallest `f32` by far
  at_zero : to_bits binary32 (narrow (of_fields binary64 s 0 t)) ≡ sign s + (0 * 2 ^ 23 + 0)
  unfolding of_fields
  at_zero =
      ap (to_bits binary32) (narrow_val (odd 53 s t 0 1074) s (t * 2 ^ 0) (2 ^ 1074) (pow_pos 1074) (odd_sign 53 s t 0 1074))
      ∙ round_bits binary32 s 53 t 0 1074 925 0 (le_trans h (lit≤ tt)) refl (λ g. absurd (lt_irrefl 0 g)) refl (lit< tt)
      ∙ ap (λ (x : ℕ). sign s + (0 * 2 ^ 23 + x)) (none t 925 (le_trans h (lit≤ tt)) (lit≤ tt))

  -- a field of j + 1
  module _ (j : ℕ) (j-lt : suc j < 2047) where
    is : narrow (of_fields binary64 s (suc j) t) ≡ round binary32 s (D * 2 ^ j) (2 ^ 1074)
    unfolding of_fields
    is =
        ap (λ (b : Bool). narrow (cond b (cond (eqb t 0) (inf s) nan) (odd 53 s D j 1074))) (ne_eqb (suc j) 2047 (λ e. absurd (omega arith)))
        ∙ narrow_val (odd 53 s D j 1074) s (D * 2 ^ j) (2 ^ 1074) (pow_pos 1074) (odd_sign 53 s D j 1074)

    over : 1150 ≤ j → to_bits binary32 (narrow (of_fields binary64 s (suc j) t)) ≡ sign s + 2139095040
    over l = ap (to_bits binary32) (is ∙ round_over binary32 s 53 D j 1074 29 (j - 896) D-lt (drop j l) (λ g. D-ge) (keep j l) (far j l)) ∙ to_bits_inf binary32 s
      where
        drop : (j : ℕ) → 1150 ≤ j → j - 896 ≡ 53 + (j + 149) - (1074 + 24)
        drop j l = omega arith

        keep : (j : ℕ) → 1150 ≤ j → 29 + (j + 149) ≡ 1074 + (j - 896)
        keep j l = omega arith

        far : (j : ℕ) → 1150 ≤ j → 255 ≤ suc (j - 896)
        far j l = omega arith

    normal : 896 ≤ j → j < 1150 → to_bits binary32 (narrow (of_fields binary64 s (suc j) t)) ≡ sign s + ((j - 896) * 2 ^ 23 + closest D (2 ^ 29))
    normal l r = ap (to_bits binary32) is ∙ round_bits binary32 s 53 D j 1074 29 (j - 896) D-lt (drop j l) (λ g. D-ge) (keep j l) (near j r)
      where
        drop : (j : ℕ) → 896 ≤ j → j - 896 ≡ 53 + (j + 149) - (1074 + 24)
        drop j l = omega arith

        keep : (j : ℕ) → 896 ≤ j → 29 + (j + 149) ≡ 1074 + (j - 896)
        keep j l = omega arith

        near : (j : ℕ) → j < 1150 → suc (j - 896) < 255
        near j r = omega arith

    small : j ≤ 896 → to_bits binary32 (narrow (of_fields binary64 s (suc j) t)) ≡ sign s + (0 * 2 ^ 23 + closest D (2 ^ (925 - j)))
    small r = ap (to_bits binary32) is ∙ round_bits binary32 s 53 D j 1074 (925 - j) 0 D-lt (drop j r) (λ g. absurd (lt_irrefl 0 g)) (keep j r) (lit< tt)
      where
        drop : (j : ℕ) → j ≤ 896 → 0 ≡ 53 + (j + 149) - (1074 + 24)
        drop j r = omega arith

        keep : (j : ℕ) → j ≤ 896 → 925 - j + (j + 149) ≡ 1074 + 0
        keep j r = omega arith

  -- ---- the four cases of the code, by the field e
  at_inf : T (not (is_nan (of_fields binary64 s 2047 t))) → to_bits binary32 (narrow (of_fields binary64 s 2047 t)) ≡ sign s + 2139095040
  unfolding of_fields is_nan
  at_inf n = go (eqb t 0) n
    where
      go : (b : Bool) → T (not (is_nan (cond b (inf s) nan))) → to_bits binary32 (narrow (cond b (inf s) nan)) ≡ sign s + 2139095040
      go true n = ap (to_bits binary32) (narrow_inf s) ∙ to_bits_inf binary32 s
      go false n = absurd n

  pub huge : (e : ℕ) → 1151 ≤ e → e < 2048 → T (not (is_nan (of_fields binary64 s e t))) → sign s + 2139095040 ≡ to_bits binary32 (narrow (of_fields binary64 s e t))
  huge zero l r n = absurd (omega arith)
  huge (suc j) l r n = go (eq-or-lt_of_le (le_of_suc-le-suc r))
    where
      go : (suc j ≡ 2047) ⊎ (suc j < 2047) → sign s + 2139095040 ≡ to_bits binary32 (narrow (of_fields binary64 s (suc j) t))
      go (inl e) = subst (λ (x : ℕ). sign s + 2139095040 ≡ to_bits binary32 (narrow (of_fields binary64 s x t))) (sym e)
          (sym (at_inf (subst (λ (x : ℕ). T (not (is_nan (of_fields binary64 s x t)))) e n)))
      go (inr g) = sym (over j g (le_of_suc-le-suc l))

  pub medium : (e : ℕ) → 897 ≤ e → e < 1151 → sign s + ((e - 897) * 2 ^ 23 + closest D (2 ^ 29)) ≡ to_bits binary32 (narrow (of_fields binary64 s e t))
  medium zero l r = absurd (omega arith)
  medium (suc j) l r = ap (λ (x : ℕ). sign s + (x * 2 ^ 23 + closest D (2 ^ 29))) (same j) ∙ sym (normal j (omega arith) (omega arith) (omega arith))
    where
      same : (j : ℕ) → suc j - 897 ≡ j - 896
      same j = omega arith

  pub little : (e : ℕ) → 863 ≤ e → e < 897 → sign s + closest D (2 ^ (926 - e)) ≡ to_bits binary32 (narrow (of_fields binary64 s e t))
  little zero l r = absurd (omega arith)
  little (suc j) l r =
      ap (λ (x : ℕ). sign s + closest D (2 ^ x)) (same j) ∙ ap (λ (x : ℕ). sign s + x) (sym (zero-add (closest D (2 ^ (925 - j))))) ∙ sym (small j (omega arith) (omega arith))
    where
      same : (j : ℕ) → 926 - suc j ≡ 925 - j
      same j = omega arith

  pub tiny : (e : ℕ) → e < 863 → sign s ≡ to_bits binary32 (narrow (of_fields binary64 s e t))
  tiny zero r = sym (add-zero (sign s)) ∙ sym at_zero
  tiny (suc j) r = sym (add-zero (sign s)) ∙ sym (small j (omega arith) (omega arith) ∙ ap (λ (x : ℕ). sign s + (0 * 2 ^ 23 + x)) (none D (925 - j) D-lt (omega arith)))

-- ---- the fields of b, as the code has them
abbrev pub s : ℕ → Bool
s b = leb (2 ^ 63) b

abbrev pub e : ℕ → ℕ
e b = b / 2 ^ 52 % 2048

abbrev pub t : ℕ → ℕ
t b = b % 2 ^ 52

pub read : (b : ℕ) → of_fields binary64 (s b) (e b) (t b) ≡ of_bits binary64 b
unfolding of_bits
read b = ap (λ (x : ℕ). of_fields binary64 (s b) x (t b)) (sym (field b 11 52))

pub t_lt : (b : ℕ) → t b < 2 ^ 52
t_lt b = mod-lt b (pow_pos 52)

-- ---- a normal result above zero: the pattern itself is rounded
-- the pattern of the field 897 + j, whose digits with the leading one are q * 2 ^ 29 + r
carry : (j q r : ℕ) → r < 536870912
    → (((896 + j) * 8388608 + q) * 536870912 + r + 268435455 + (((896 + j) * 8388608 + q) * 536870912 + r) / 536870912 % 2) / 536870912 - 7516192768
    ≡ j * 8388608 + (q + (r + 268435455 + q % 2) / 536870912)
carry j q r h =
    ap (λ (x : ℕ). (((896 + j) * 8388608 + q) * 536870912 + r + 268435455 + x % 2) / 536870912 - 7516192768) (whole ((896 + j) * 8388608 + q) r h)
    ∙ ap (λ (x : ℕ). (((896 + j) * 8388608 + q) * 536870912 + r + 268435455 + x) / 536870912 - 7516192768) (parity j q)
    ∙ ap (λ (x : ℕ). x - 7516192768) (apart ((896 + j) * 8388608 + q) r (q % 2))
    ∙ less j q ((r + 268435455 + q % 2) / 536870912)
  where
    whole : (a r : ℕ) → r < 536870912 → (a * 536870912 + r) / 536870912 ≡ a
    whole a r h = omega arith

    parity : (j q : ℕ) → ((896 + j) * 8388608 + q) % 2 ≡ q % 2
    parity j q = omega arith

    apart : (a r c : ℕ) → (a * 536870912 + r + 268435455 + c) / 536870912 ≡ a + (r + 268435455 + c) / 536870912
    apart a r c = omega arith

    less : (j q y : ℕ) → (896 + j) * 8388608 + q + y - 7516192768 ≡ j * 8388608 + (q + y)
    less j q y = omega arith

pub plain : (b : ℕ) → 897 * 2 ^ 52 ≤ b → b < 1151 * 2 ^ 52 → (b + 268435455 + b / 536870912 % 2) / 536870912 - 7516192768 ≡ to_bits binary32 (narrow (of_bits binary64 b))
plain b lo hi =
    let j = e b - 897 in
    let D = 2 ^ 52 + t b in
    let f : e b ≡ b / 2 ^ 52 = mod-eq_of_lt (small b hi).0 in
    let l : 897 ≤ e b = subst (λ (x : ℕ). 897 ≤ x) (sym f) (large b lo) in
    let parts : b ≡ ((896 + j) * 8388608 + D / 536870912) * 536870912 + D % 536870912 = split b (e b) (t b) D f refl refl l in
    subst (λ (x : ℕ). (x + 268435455 + x / 536870912 % 2) / 536870912 - 7516192768 ≡ j * 8388608 + closest D (2 ^ 29)) (sym parts)
    (carry j (D / 536870912) (D % 536870912) (mod-lt D (lit< tt)) ∙ ap (λ (x : ℕ). j * 8388608 + x) (carried D (2 ^ 28) (pow_pos 28)))
    ∙ sym (zero-add (j * 8388608 + closest D (2 ^ 29)))
    ∙ medium false (t b) (t_lt b) (e b) l (subst (λ (x : ℕ). x < 1151) (sym f) (small b hi).1)
    ∙ ap (λ (a : Bool). to_bits binary32 (narrow (of_fields binary64 a (e b) (t b)))) (sym (lt-leb (2 ^ 63) b (small b hi).2))
    ∙ ap (λ (x : Float). to_bits binary32 (narrow x)) (read b)
  where
    large : (b : ℕ) → 4039728865751334912 ≤ b → 897 ≤ b / 4503599627370496
    large b h = omega arith

    small : (b : ℕ) → b < 5183643171103440896 → (b / 4503599627370496 < 2048) × (b / 4503599627370496 < 1151) × (b < 9223372036854775808)
    small b h = (omega arith, omega arith, omega arith)

    split : (b e t D : ℕ) → e ≡ b / 4503599627370496 → t ≡ b % 4503599627370496 → D ≡ 4503599627370496 + t → 897 ≤ e
        → b ≡ ((896 + (e - 897)) * 8388608 + D / 536870912) * 536870912 + D % 536870912
    split b e t D p q r l = omega arith

-- ---- the highest bit of a pattern of 64
pub bit : (b : ℕ) → b < 2 * 2 ^ 63 → b / 2 ^ 63 ≡ cond (leb (2 ^ 63) b) 1 0
bit b h = go (leb (2 ^ 63) b) (leb→le (2 ^ 63) b) (nleb→lt (2 ^ 63) b)
  where
    above : (n : ℕ) → n < 2 * 9223372036854775808 → 9223372036854775808 ≤ n → n / 9223372036854775808 ≡ 1
    above n a c = omega arith

    under : (n : ℕ) → n < 9223372036854775808 → n / 9223372036854775808 ≡ 0
    under n a = omega arith

    go : (a : Bool) → (T a → 2 ^ 63 ≤ b) → (T (not a) → b < 2 ^ 63) → b / 2 ^ 63 ≡ cond a 1 0
    go true p q = above b h (p tt)
    go false p q = under b (q tt)
