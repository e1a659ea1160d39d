-- The nearest whole number, over the format: what `round_away` gives is whole, and a value of the format. Assumes nothing.
use Rattle.std.proofs.Common.{◌≡◌, ℕ, zero, suc, ◌+◌, ◌*◌, ◌/◌, ◌^◌, ◌<◌, ◌≤◌, Bool, true, false, cond, not, T, ltb, ℤ, pos, negsuc, sym, refl, ap, ◌∙◌, subst, suc-le-suc, zero-le, le_trans, le_of_eq, lt_of_lt_of_le, lt_of_le_of_lt, le_of_lt, mul-le-mul_right, zero-lt-suc, mul_assoc, mul_comm, div-lt_iff_lt-mul, mul-le-mul_left, mul-lt-mul_of_pos_right, one-mul, zero-mul, mul-one, mul_left_comm, arith, pow_pos, pow_mono, pow-add}
use lib.Ieee.{Float, inf, fin, Format, prec, emax, low, up, down, odd, units, round, neg, fits}
use lib.Ieee.Fits.{round_is}
use lib.Ieee.Exact.{HasValue, round_exact}
use lib.Ieee.Back.{round_whole}
use Rattle.numbers.proofs.Units.{says}
use Rattle.std.specs.Float.{round_with}
use Rattle.numbers.specs.Whole.{round_away}

-- ---- m / d and a half, cut, for a d of 2 at least
two_le : (a : ℕ) → 2 ≤ 2 ^ suc a
two_le a = pow_mono {i = 1} {j = suc a} (suc-le-suc zero-le)

few : (m d P : ℕ) → m < P → 2 ≤ d → (2 * (m * 1) + d) / (2 * d) ≤ P
few m d P h k =
    le_of_lt
    ((div-lt_iff_lt-mul (twice_pos d k)).1
    (go m d P (P * d) (P * (2 * d)) h (mul-le-mul_left P k) (le_trans (le_of_eq (sym (one-mul d))) (mul-le-mul_right d (lt_of_le_of_lt zero-le h))) (mul_left_comm P 2 d)))
  where
    twice_pos : (d : ℕ) → 2 ≤ d → 0 < 2 * d
    twice_pos d h = omega arith

    go : (m d P x y : ℕ) → m < P → P * 2 ≤ x → d ≤ x → y ≡ 2 * x → 2 * (m * 1) + d < y
    go m d P x y a b c e = omega arith

-- ---- from 2 ^ (prec - 1) on a value is whole, and stays
whole_exact : (f : Format) (s : Bool) (m a : ℕ) → T (fits f (fin s (suc m) (pos a))) → HasValue (round f s (suc m * 2 ^ a) 1) s (suc m * 2 ^ a) 1
whole_exact f s m a F =
    let M = suc m * 2 ^ a in
    let k = says f s (suc m) (pos a) F in
    let shifted : M * 2 ^ low f ≡ suc m * 2 ^ (a + low f) = mul_assoc (suc m) (2 ^ a) (2 ^ low f) ∙ ap (λ (x : ℕ). suc m * x) (sym (pow-add 2 a (low f))) in
    let room : suc m * 2 ^ (a + low f) < 2 ^ (low f + suc (emax f)) =
    lt_of_le_of_lt (le_of_eq (sym shifted))
    (lt_of_lt_of_le (mul-lt-mul_of_pos_right (subst (λ (x : ℕ). M < x) (mul-one (2 ^ suc (emax f))) k.2) (pow_pos (low f)))
    (le_of_eq (mul_comm (2 ^ suc (emax f)) (2 ^ low f) ∙ sym (pow-add 2 (low f) (suc (emax f)))))) in
    round_exact f s M 1 (suc m) (a + low f) (zero-lt-suc 0) k.0 room (shifted ∙ sym (mul-one (suc m * 2 ^ (a + low f))))

halved : (n : ℕ) → (2 * n + 1) / 2 ≡ n
halved n = omega arith

-- ---- the size n / d of m * 2 ^ e and a half, cut; the sign stays
pub away_is : (f : Format) (s : Bool) (m : ℕ) (e : ℤ) → round_away f (fin s m e) ≡ round f s ((2 * (m * up e) + down e) / (2 * down e)) 1
unfolding round_with
away_is f true m e = refl
away_is f false m e = refl

-- that whole number is a value of the format: its `round` changes nothing
pub exact_whole : (f : Format) (s : Bool) (m : ℕ) (e : ℤ) → T (fits f (fin s m e)) → HasValue (round_away f (fin s m e)) s ((2 * (m * up e) + down e) / (2 * down e)) 1
exact_whole f s m e F = subst (λ (x : Float). HasValue x s ((2 * (m * up e) + down e) / (2 * down e)) 1) (sym (away_is f s m e)) (exact_round f s m e F)
  where
    exact_round : (f : Format) (s : Bool) (m : ℕ) (e : ℤ) → T (fits f (fin s m e)) → HasValue (round f s ((2 * (m * up e) + down e) / (2 * down e)) 1) s ((2 * (m * up e) + down e) / (2 * down e)) 1
    exact_round f s zero (pos a) F = subst (λ (x : ℕ). HasValue (round f s x 1) s x 1) (sym (ap (λ (x : ℕ). (2 * x + 1) / 2) (zero-mul (2 ^ a)))) (round_whole f s 0 zero-le)
    exact_round f s (suc m) (pos a) F = subst (λ (x : ℕ). HasValue (round f s x 1) s x 1) (sym (halved (suc m * 2 ^ a))) (whole_exact f s m a F)
    exact_round f s zero (negsuc a) F = round_whole f s _ (few 0 (2 ^ suc a) (2 ^ prec f) (pow_pos (prec f)) (two_le a))
    exact_round f s (suc m) (negsuc a) F = round_whole f s _ (few (suc m) (2 ^ suc a) (2 ^ prec f) (says f s (suc m) (negsuc a) F).0 (two_le a))

-- ---- the sign
neg_odd : (d : ℕ) (s : Bool) (q k l : ℕ) → neg (odd d s q k l) ≡ odd d (not s) q k l
unfolding neg odd
neg_odd d s zero k l = refl
neg_odd d s (suc q) k l = refl

neg_units : (f : Format) (s : Bool) (q k : ℕ) → neg (units f s q k) ≡ units f (not s) q k
unfolding units neg
neg_units f s q k = go (ltb (q * 2 ^ k) (2 ^ (low f + suc (emax f))))
  where
    go : (b : Bool) → neg (cond b (odd (suc (prec f)) s q k (low f)) (inf s)) ≡ cond b (odd (suc (prec f)) (not s) q k (low f)) (inf (not s))
    go true = neg_odd (suc (prec f)) s q k (low f)
    go false = refl

pub neg_round : (f : Format) (s : Bool) (a c : ℕ) → neg (round f s a c) ≡ round f (not s) a c
neg_round f s a c = ap neg (round_is f s a c) ∙ neg_units f s _ _ ∙ sym (round_is f (not s) a c)
