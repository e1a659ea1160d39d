-- std's word for the square root, `lib.Ieee.sqrt`, gives what `sqrt` of specs/Root does, for every value that the format holds. Assumes nothing.
-- std's takes the root to 2271 binary places and has one digit more, which says whether it goes on. So it drops as many digits as `root_units`, and the two tests of what is dropped agree.
use Rattle.std.proofs.Common.{◌≡◌, ℕ, zero, suc, ◌+◌, ◌-◌, ◌*◌, ◌/◌, ◌%◌, ◌^◌, ◌<◌, ◌≤◌, Bool, true, false, cond, T, eqb, ℤ, sym, refl, ap, ◌∙◌, subst, le_trans, le_of_eq, lt_of_lt_of_le, lt_of_le_of_lt, le_of_lt, le_antisymm, le_of_suc-le-suc, mul-le-mul, mul-add, ap₂, div-one, eqb-true, mul_right_comm, eqb→eq, mul_assoc, mul_comm, mul_left_comm, mul-le-mul_right, mul-lt-mul_of_pos_right, mul-pos, div-lt_iff_lt-mul, le-div_iff_mul-le, div-add-mod', mul-div_cancel, add-one, one-mul, add-mul, arith, pow_pos, pow_mono, pow-add, eq-eqb}
use Prim.Native.Nat.{compare, Ordering}
use native.Mathlib.Nat.{div-eq_of_lt-le}
use lib.Ieee.{Float, nan, inf, fin, Format, binary32, binary64, prec, emax, low, up, down, size, units, nearest, round, root_below, root_twice, fits}
use lib.Ieee as Ieee
use lib.Ieee.Digits.{size-lt, size-le}
use lib.Ieee.Fits.{down_pos, round_is}
use lib.Ieee.Nearest.{closest, closest_same, div_same}
use lib.Ieee.Root.{whole_part}
use Rattle.numbers.specs.Root.{root, root_units, sqrt}
use Rattle.numbers.proofs.Units.{flat, says, units_of, units_whole}
use Rattle.numbers.proofs.Closest.{Cmp, cmp}
use Rattle.numbers.proofs.Squares.{Cut, root_lt, root_cut, square_next, square_twice}

-- ---- n / w to the nearest, by another test that says the same of the remainder
closest_by : (n w r x y : ℕ) → 0 < w → r * w ≤ n → n < r * w + w
    → (x < y → 2 * n < 2 * (r * w) + w) → (x ≡ y → 2 * n ≡ 2 * (r * w) + w) → (y < x → 2 * (r * w) + w < 2 * n) → closest n w ≡ nearest r (compare x y)
closest_by n w r x y p lo hi a b c =
    go (n / w) (n % w) (r * w) (n / w * w)
    (div-eq_of_lt-le {k = r} w {m = n} lo (lt_of_lt_of_le hi (le_of_eq (next r w))))
    (ap (λ (q : ℕ). q * w) (div-eq_of_lt-le {k = r} w {m = n} lo (lt_of_lt_of_le hi (le_of_eq (next r w)))))
    (div-add-mod' n w) (compare (n % w * 2) w) (cmp (n % w * 2) w) (compare x y) (cmp x y) a b c
  where
    next : (r w : ℕ) → r * w + w ≡ (r + 1) * w
    next r w = sym (add-mul r 1 w ∙ ap (λ (z : ℕ). r * w + z) (one-mul w))

    go : (q s P Q : ℕ) → q ≡ r → Q ≡ P → Q + s ≡ n → (o : Ordering) → Cmp o (s * 2) w → (u : Ordering) → Cmp u x y
        → (x < y → 2 * n < 2 * P + w) → (x ≡ y → 2 * n ≡ 2 * P + w) → (y < x → 2 * P + w < 2 * n) → nearest q o ≡ nearest r u
    go q s P Q e f g Ordering.lt k Ordering.lt m a b c = e
    go q s P Q e f g Ordering.lt k Ordering.eq m a b c = absurd (omega (arith, b m))
    go q s P Q e f g Ordering.lt k Ordering.gt m a b c = absurd (omega (arith, c m))
    go q s P Q e f g Ordering.eq k Ordering.lt m a b c = absurd (omega (arith, a m))
    go q s P Q e f g Ordering.eq k Ordering.eq m a b c = ap (λ (z : ℕ). z + z % 2) e
    go q s P Q e f g Ordering.eq k Ordering.gt m a b c = absurd (omega (arith, c m))
    go q s P Q e f g Ordering.gt k Ordering.lt m a b c = absurd (omega (arith, a m))
    go q s P Q e f g Ordering.gt k Ordering.eq m a b c = absurd (omega (arith, b m))
    go q s P Q e f g Ordering.gt k Ordering.gt m a b c = ap suc e

-- ---- how many digits a root has: half as many, rounded up
size_root : (v w : ℕ) → Cut v w → size w ≡ (size v + 1) / 2
size_root v w c =
    le_antisymm (size-le w ((size v + 1) / 2) (root_lt w (2 ^ ((size v + 1) / 2))
    (lt_of_le_of_lt c.0 (lt_of_lt_of_le (size-lt v) (le_trans (pow_mono (half (size v))) (le_of_eq (pow-add 2 ((size v + 1) / 2) ((size v + 1) / 2))))))))
    (back (size v) (size w) (size-le v (size w + size w) (lt_of_lt_of_le c.1 (le_trans (mul-le-mul (next w) (next w)) (le_of_eq (sym (pow-add 2 (size w) (size w))))))))
  where
    half : (s : ℕ) → s ≤ (s + 1) / 2 + (s + 1) / 2
    half s = omega arith

    back : (s t : ℕ) → s ≤ t + t → (s + 1) / 2 ≤ t
    back s t h = omega arith

    next : (w : ℕ) → w + 1 ≤ 2 ^ size w
    next w = le_trans (le_of_eq (add-one w)) (size-lt w)

-- ---- R is the root, cut, of 4 * v * h ^ 2
square_mul : (t h : ℕ) → t * h * (t * h) ≡ t * t * (h * h)
square_mul t h = simp (mul_assoc, mul_left_comm)

module _ (v h R : ℕ) (p : 0 < h) (c : Cut (4 * v * (h * h)) R) where
  -- t * h is at most R where t squared is at most 4 * v, and past R where it is more
  up_to : (t : ℕ) → t * t ≤ 4 * v → t * h ≤ R
  up_to t l = le_of_suc-le-suc (subst (λ (x : ℕ). t * h < x) (add-one R) (root_lt (t * h) (R + 1) (lt_of_le_of_lt (le_trans (le_of_eq (square_mul t h)) (mul-le-mul_right (h * h) l)) c.1)))

  past : (t : ℕ) → 4 * v < t * t → R < t * h
  past t l = root_lt R (t * h) (lt_of_le_of_lt c.0 (lt_of_lt_of_le (mul-lt-mul_of_pos_right l (mul-pos p p)) (le_of_eq (sym (square_mul t h)))))

  -- 1 where the root goes on
  abbrev more : ℕ
  more = cond (eqb (R * R) (4 * v * (h * h))) 0 1

  more_le : more ≤ 1
  more_le = go (eqb (R * R) (4 * v * (h * h)))
    where
      go : (b : Bool) → cond b 0 1 ≤ 1
      go true = omega arith
      go false = omega arith

  exact : (t : ℕ) → t * t ≡ 4 * v → (R ≡ t * h) × (more ≡ 0)
  exact t e =
      let at : R ≡ t * h =
      le_antisymm (le_of_suc-le-suc (subst (λ (x : ℕ). R < x) (add-one (t * h))
      (root_lt R (t * h + 1) (lt_of_le_of_lt c.0 (lt_of_le_of_lt (le_of_eq (square e)) (less (t * h)))))))
      (up_to t (le_of_eq e)) in
      (at, ap (λ (b : Bool). cond b 0 1) (eq-eqb (R * R) (4 * v * (h * h)) (ap (λ (x : ℕ). x * x) at ∙ sym (square e))))
    where
      square : t * t ≡ 4 * v → 4 * v * (h * h) ≡ t * h * (t * h)
      square e = ap (λ (x : ℕ). x * (h * h)) (sym e) ∙ sym (square_mul t h)

      less : (x : ℕ) → x * x < (x + 1) * (x + 1)
      less x = lt_of_lt_of_le (omega arith) (le_of_eq (sym (square_next x)))

  goes_on : (t : ℕ) → t * t < 4 * v → t * h < R + more
  goes_on t l = go (eqb (R * R) (4 * v * (h * h))) refl (up_to t (le_of_lt l))
    where
      under : t * h * (t * h) < 4 * v * (h * h)
      under = lt_of_le_of_lt (le_of_eq (square_mul t h)) (mul-lt-mul_of_pos_right l (mul-pos p p))

      go : (b : Bool) → eqb (R * R) (4 * v * (h * h)) ≡ b → t * h ≤ R → t * h < R + cond b 0 1
      go true e m = lt_of_lt_of_le (root_lt (t * h) R (lt_of_lt_of_le under (le_of_eq (sym (eqb-true (R * R) (4 * v * (h * h)) e))))) (omega arith)
      go false e m = omega arith

  -- r is the root of v / k ^ 2, cut
  module _ (k r : ℕ) (q : 0 < k) (d : Cut (v / (k * k)) r) where
    kk : 0 < k * k
    kk = mul-pos q q

    -- the place of r, and of the halfway point after it
    abbrev at_r : ℕ
    at_r = r * (k * h)

    lower : 2 * at_r ≤ R
    lower =
        le_trans (le_of_eq (simp (mul_assoc, mul_comm, mul_left_comm)))
        (up_to (2 * (r * k)) (le_trans (le_of_eq (square r k)) (le_trans (le_of_eq (mul_comm 4 (r * r * (k * k))))
        (le_trans (mul-le-mul_right 4 ((le-div_iff_mul-le kk).0 d.0)) (le_of_eq (mul_comm v 4))))))
      where
        square : (r k : ℕ) → 2 * (r * k) * (2 * (r * k)) ≡ 4 * (r * r * (k * k))
        square r k = square_twice (r * k) ∙ ap (λ (x : ℕ). 4 * x) (square_mul r k)

    upper : R < 2 * at_r + 2 * (k * h)
    upper =
        lt_of_lt_of_le (past (2 * ((r + 1) * k)) (lt_of_lt_of_le (four v ((r + 1) * (r + 1) * (k * k)) ((div-lt_iff_lt-mul kk).0 d.1)) (le_of_eq (sym (square (r + 1) k)))))
        (le_of_eq (apart r k h))
      where
        four : (a b : ℕ) → a < b → 4 * a < 4 * b
        four a b h = omega arith

        square : (r k : ℕ) → 2 * (r * k) * (2 * (r * k)) ≡ 4 * (r * r * (k * k))
        square r k = square_twice (r * k) ∙ ap (λ (x : ℕ). 4 * x) (square_mul r k)

        apart : (r k h : ℕ) → 2 * ((r + 1) * k) * h ≡ 2 * (r * (k * h)) + 2 * (k * h)
        apart r k h =
            mul_assoc 2 ((r + 1) * k) h
            ∙ ap (λ (x : ℕ). 2 * x) (mul_assoc (r + 1) k h ∙ add-mul r 1 (k * h) ∙ ap (λ (x : ℕ). r * (k * h) + x) (one-mul (k * h)))
            ∙ mul-add 2 (r * (k * h)) (k * h)

    abbrev odd : ℕ
    odd = (2 * r + 1) * k

    odd_is : odd * h ≡ 2 * at_r + k * h
    odd_is = mul_assoc (2 * r + 1) k h ∙ add-mul (2 * r) 1 (k * h) ∙ ap₂ (λ (x y : ℕ). x + y) (mul_assoc 2 r (k * h)) (one-mul (k * h))

    -- twice R, and 1 where it goes on, to the nearest multiple of 4 * k * h
    pub nearest_is : closest (2 * R + more) (4 * (k * h)) ≡ nearest r (compare (4 * v) ((2 * r + 1) * (2 * r + 1) * (k * k)))
    nearest_is =
        closest_by (2 * R + more) (4 * (k * h)) r (4 * v) ((2 * r + 1) * (2 * r + 1) * (k * k)) (omega (arith, mul-pos q p)) (omega (arith, fours, lower)) (omega (arith, fours, upper, more_le))
        (λ l. omega (arith, fours, odd_is, past odd (lt_of_lt_of_le l (le_of_eq (sym (square_mul (2 * r + 1) k)))), more_le))
        (λ e. let x = exact odd (square_mul (2 * r + 1) k ∙ sym e) in omega (arith, fours, odd_is, x.0, x.1))
        (λ l. omega (arith, fours, odd_is, goes_on odd (lt_of_le_of_lt (le_of_eq (square_mul (2 * r + 1) k)) l), more_le))
      where
        fours : r * (4 * (k * h)) ≡ 4 * at_r
        fours = mul_left_comm r 4 (k * h)

-- `root_units`, from its k and its r on
root_units-is : (f : Format) (v k r : ℕ) → k ≡ (size v + 1) / 2 - prec f → r ≡ root (v / (2 ^ k * 2 ^ k))
    → root_units f v ≡ units f false (nearest r (compare (4 * v) ((2 * r + 1) * (2 * r + 1) * (2 ^ k * 2 ^ k)))) k
unfolding root_units
root_units-is f v k r e g = rw (g, e)

-- ---- what std rounds, for a value of v squared units
abbrev rest : Format → ℕ
rest f = 2 ^ (2270 - low f)

module _ (f : Format) (v : ℕ) where
  abbrev h : ℕ
  h = rest f

  abbrev V : ℕ
  V = 4 * v * (h * h)

  R : ℕ
  R = root_below (size V) V

  c : Cut V R
  unfolding R
  c = whole_part V

  h-pos : 0 < h
  h-pos = pow_pos (2270 - low f)

  abbrev n : ℕ
  n = 2 * R + more v h R h-pos c

  n_is : root_twice V ≡ n
  unfolding root_twice R
  n_is = refl

  den_is : 2 ^ 2272 ≡ 4 * h * 2 ^ low f
  den_is = go f
    where
      go : (f : Format) → 2 ^ 2272 ≡ 4 * 2 ^ (2270 - low f) * 2 ^ low f
      go binary32 = refl
      go binary64 = refl

  abbrev w : ℕ
  w = root v

  -- as many digits go
  whole_is : n * 2 ^ low f / 2 ^ 2272 ≡ w
  whole_is =
      div_same (n * 2 ^ low f) (2 ^ 2272) n (4 * h) (pow_pos 2272) (omega (arith, h-pos)) (mul_assoc n (2 ^ low f) (4 * h) ∙ ap (λ (x : ℕ). n * x) (mul_comm (2 ^ low f) (4 * h) ∙ sym den_is))
      ∙ div-eq_of_lt-le {k = w} (4 * h) {m = n}
      (omega (arith, lower v h R h-pos c 1 w (omega arith) at_one, one-mul h, fours))
      (omega (arith, upper v h R h-pos c 1 w (omega arith) at_one, one-mul h, fours, more_le v h R h-pos c, add-mul w 1 (4 * h)))
    where
      at_one : Cut (v / (1 * 1)) w
      at_one = subst (λ (x : ℕ). Cut x w) (sym (div-one v)) (root_cut v)

      fours : w * (4 * h) ≡ 4 * (w * h)
      fours = mul_left_comm w 4 h

  abbrev k : ℕ
  k = (size v + 1) / 2 - prec f

  abbrev K : ℕ
  K = 2 ^ k

  abbrev r : ℕ
  r = root (v / (K * K))

  drop_is : size (n * 2 ^ low f / 2 ^ 2272) - prec f ≡ k
  drop_is = ap (λ (x : ℕ). x - prec f) (ap size whole_is ∙ size_root v w (root_cut v))

  kept_is : closest (n * 2 ^ low f) (2 ^ 2272 * K) ≡ nearest r (compare (4 * v) ((2 * r + 1) * (2 * r + 1) * (K * K)))
  kept_is =
      closest_same (n * 2 ^ low f) (2 ^ 2272 * K) n (4 * (K * h)) (mul-pos (pow_pos 2272) (pow_pos k)) (omega (arith, mul-pos (pow_pos k) h-pos)) (cross n (2 ^ low f) K h (2 ^ 2272) den_is)
      ∙ nearest_is v h R h-pos c K r (pow_pos k) (root_cut (v / (K * K)))
    where
      cross : (n l k h d : ℕ) → d ≡ 4 * h * l → n * l * (4 * (k * h)) ≡ n * (d * k)
      cross n l k h d e =
          let same : n * l * (4 * (k * h)) ≡ n * (4 * h * l * k) = simp (mul_assoc, mul_comm, mul_left_comm) in
          same ∙ ap (λ (x : ℕ). n * (x * k)) (sym e)

  pub rounds_so : round f false (root_twice V) (2 ^ 2272) ≡ root_units f v
  rounds_so =
      ap (λ (x : ℕ). round f false x (2 ^ 2272)) n_is
      ∙ round_is f false n (2 ^ 2272)
      ∙ ap (λ (x : ℕ). units f false (closest (n * 2 ^ low f) (2 ^ 2272 * 2 ^ x)) x) drop_is
      ∙ ap (λ (x : ℕ). units f false x k) kept_is
      ∙ sym (root_units-is f v k r refl refl)

-- ---- a value that the format holds, in squared units
module _ (f : Format) (m : ℕ) (e : ℤ) (l : down e ≤ 2 ^ low f) where
  abbrev L : ℕ
  L = 2 ^ low f

  -- a whole number of them
  squared : (v : ℕ) × (suc m * up e * (L * L) ≡ v * down e)
  squared =
      let u = units_whole f (suc m) e l in
      (units_of f (suc m) e * L, sym (mul_assoc (suc m * up e) L L) ∙ ap (λ (x : ℕ). x * L) u.2 ∙ mul_right_comm (units_of f (suc m) e) (down e) L)

  in_std : suc m * up e * 2 ^ 4542 ≡ 4 * squared.0 * (rest f * rest f) * down e
  in_std =
      let v = squared.0 in
      let same : suc m * up e * (4 * (L * L) * (rest f * rest f)) ≡ 4 * (suc m * up e * (L * L)) * (rest f * rest f) = simp (mul_assoc, mul_left_comm) in
      let back : 4 * (v * down e) * (rest f * rest f) ≡ 4 * v * (rest f * rest f) * down e = simp (mul_assoc, mul_comm, mul_left_comm) in
      ap (λ (x : ℕ). suc m * up e * x) (all f) ∙ same ∙ ap (λ (x : ℕ). 4 * x * (rest f * rest f)) squared.1 ∙ back
    where
      all : (f : Format) → 2 ^ 4542 ≡ 4 * (2 ^ low f * 2 ^ low f) * (rest f * rest f)
      all binary32 = refl
      all binary64 = refl

  root_is : round f false (root_twice (suc m * up e * 2 ^ 4542 / down e)) (2 ^ 2272) ≡ root_units f (suc m * up e * (L * L) / down e)
  root_is =
      let v = squared.0 in
      ap (λ (x : ℕ). round f false (root_twice (x / down e)) (2 ^ 2272)) in_std
      ∙ ap (λ (x : ℕ). round f false (root_twice x) (2 ^ 2272)) (mul-div_cancel (4 * v * (rest f * rest f)) (down_pos e))
      ∙ rounds_so f v
      ∙ sym (ap (λ (x : ℕ). root_units f (x / down e)) squared.1 ∙ ap (root_units f) (mul-div_cancel v (down_pos e)))

-- std's `x.sqrt()` is `sqrt`
pub std_sqrt : (f : Format) (x : Float) → T (fits f x) → Ieee.sqrt f x ≡ sqrt f x
unfolding sqrt Ieee.sqrt fits
std_sqrt f nan F = refl
std_sqrt f (inf true) F = refl
std_sqrt f (inf false) F = refl
std_sqrt f (fin s zero e) F = ap (fin s 0) (sym (flat e (eqb→eq (up e * down e) 1 F)))
std_sqrt f (fin true (suc m) e) F = refl
std_sqrt f (fin false (suc m) e) F = root_is f m e (says f false (suc m) e F).1
