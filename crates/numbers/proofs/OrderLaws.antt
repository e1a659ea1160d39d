-- Laws: x stands before y exactly where its key is smaller, and no two values share a key. So the order is that of whole numbers. Assumes nothing.
-- A pattern without its sign is `code` of the size in units, which grows with the size: an infinity's size is `overflow`, above every finite one.
use Rattle.std.proofs.Common.{◌≡◌, ℕ, ◌+◌, ◌-◌, ◌*◌, ◌/◌, ◌^◌, ◌<◌, ◌≤◌, Bool, true, false, cond, not, ◌&&◌, T, ltb, ℤ, sym, refl, ap, ◌∙◌, subst, ⊎_elim, le_trans, le_of_eq, lt_of_lt_of_le, le_of_lt, add_assoc, mul-le-mul_right, mul_assoc, suc-mul, div-lt_iff_lt-mul, eq-or-lt_of_le, mul-lt-mul_of_pos_right, one-mul, lt_of_not-le, le-div_iff_mul-le, not-le_of_lt, le_of_mul-le-mul_right, mul-div_cancel, add-one, arith, lit≤, pow_pos, pow-add, ltb-false, ltb-true, le-ltb, lt-ltb}
use lib.Pow.{pow-lt}
use lib.Ieee.{Float, nan, inf, fin, Format, binary32, binary64, prec, low, up, down, size, lt, fits, is_nan, hid, ones, top, to_bits, of_bits}
use lib.Ieee.Bits.{of_bits-to_bits, to_bits-lt}
use lib.Ieee.Digits.{size-lt, size-le, size_reaches}
use lib.Ieee.Fits.{kept-lt, two, down_pos, inf-fits}
use lib.Ieee.Order.{transfer}
use lib.Ieee.Scale.{overflow}
use Rattle.numbers.specs.Order.{negative, before, order_key}
use Rattle.numbers.proofs.Tests.{no}
use Rattle.numbers.proofs.Units.{says, units_of, units_whole, units_under}

-- ---- two tests that agree
same_test : (a b c d : ℕ) → (b ≤ a → d ≤ c) → (d ≤ c → b ≤ a) → ltb a b ≡ ltb c d
same_test a b c d p q = go (ltb c d) refl
  where
    go : (t : Bool) → ltb c d ≡ t → ltb a b ≡ t
    go true e = lt-ltb a b (lt_of_not-le (λ (h : b ≤ a). not-le_of_lt (ltb-true c d e) (p h)))
    go false e = le-ltb a b (q (ltb-false c d e))

-- ---- n units as a pattern without its sign: how many digits are dropped, and the p digits that are kept
abbrev code : ℕ → ℕ → ℕ
code p n = (size n - p) * 2 ^ (p - 1) + n / 2 ^ (size n - p)

-- no digit of n is lost
abbrev Exact : ℕ → ℕ → Type 0
Exact p n = n / 2 ^ (size n - p) * 2 ^ (size n - p) ≡ n

exact : (p m j : ℕ) → m < 2 ^ p → Exact p (m * 2 ^ j)
exact p m j h =
    let n = m * 2 ^ j in
    let b : n < 2 ^ (p + j) = rw (pow-add 2 p j) (mul-lt-mul_of_pos_right h (pow_pos j)) in
    let c = size-le n (p + j) b in
    let k = size n - p in
    let s : j ≡ (j - k) + k = omega arith in
    let a : n ≡ m * 2 ^ (j - k) * 2 ^ k = ap (λ (x : ℕ). m * 2 ^ x) s ∙ ap (λ (x : ℕ). m * x) (pow-add 2 (j - k) k) ∙ sym (mul_assoc m (2 ^ (j - k)) (2 ^ k)) in
    ap (λ (x : ℕ). x * 2 ^ k) (ap (λ (x : ℕ). x / 2 ^ k) a ∙ mul-div_cancel (m * 2 ^ (j - k)) (pow_pos k)) ∙ sym a

full : (p b : ℕ) → 1 ≤ p → p < size b → 2 ^ (p - 1) ≤ b / 2 ^ (size b - p)
full p b o h =
    let k = size b - p in
    let e : size b - 1 ≡ (p - 1) + k = omega arith in
    let r : 2 ^ ((p - 1) + k) ≤ b = rw (← e) (size_reaches b (size b - 1) (omega arith)) in
    (le-div_iff_mul-le (pow_pos k)).1 (rw (← pow-add 2 (p - 1) k) r)

code_mono : (p a b : ℕ) → 1 ≤ p → Exact p b → a < b → code p a < code p b
code_mono p a b o x h = ⊎_elim
    (λ (e : size a - p ≡ size b - p).
    let d : a / 2 ^ (size b - p) < b / 2 ^ (size b - p) = (div-lt_iff_lt-mul (pow_pos (size b - p))).1 (rw x h) in
    rw e (omega arith))
    (λ (e : size a - p < size b - p).
    let t : 2 ^ p ≡ 2 ^ (p - 1) * 2 = (let q : p ≡ (p - 1) + 1 = omega arith in ap (λ (n : ℕ). 2 ^ n) q ∙ pow-add 2 (p - 1) 1) in
    let m = mul-le-mul_right {m = size a - p + 1} {n = size b - p} (2 ^ (p - 1)) (omega arith) in
    let n : (size a - p + 1) * 2 ^ (p - 1) ≡ (size a - p) * 2 ^ (p - 1) + 2 ^ (p - 1) = rw add-one (suc-mul (size a - p) (2 ^ (p - 1))) in
    omega (arith, kept-lt p a, full p b o (omega arith)))
    (eq-or-lt_of_le (let l = size-le a (size b) (lt_of_lt_of_le h (le_of_lt (size-lt b))) in omega arith))

code_same : (p a b : ℕ) → 1 ≤ p → Exact p a → Exact p b → ltb a b ≡ ltb (code p a) (code p b)
code_same p a b o x y = same_test a b (code p a) (code p b)
    (λ (h : b ≤ a). ⊎_elim (λ (e : b ≡ a). le_of_eq (ap (code p) e)) (λ (l : b < a). le_of_lt (code_mono p b a o x l)) (eq-or-lt_of_le h))
    (λ (h : code p b ≤ code p a). le_of_not_lt (λ (l : a < b). not-le_of_lt (code_mono p a b o y l) h))
  where
    le_of_not_lt : {m n : ℕ} → (m < n → ⊥) → n ≤ m
    le_of_not_lt {m} {n} h = go (ltb m n) refl
      where
        go : (t : Bool) → ltb m n ≡ t → n ≤ m
        go true e = absurd (h (ltb-true m n e))
        go false e = ltb-false m n e

-- ---- a value's size in units, an infinity's among them
abbrev mag : Format → Float → ℕ
mag f nan = 0
mag f (inf s) = overflow f
mag f (fin s m e) = units_of f m e

one : (f : Format) → 1 ≤ prec f
one f = le_trans (lit≤ {m = 1} {n = 2} tt) (two f)

mag_exact : (f : Format) (x : Float) → T (fits f x) → T (not (is_nan x)) → Exact (prec f) (mag f x)
unfolding is_nan
mag_exact f nan F n = absurd n
mag_exact f (inf s) F n = subst (Exact (prec f)) (one-mul (overflow f)) (exact (prec f) 1 _ (one_lt (prec f) (two f)))
  where
    one_lt : (p : ℕ) → 2 ≤ p → 1 < 2 ^ p
    one_lt p h = pow-lt {i = 0} {j = p} (le_trans (lit≤ {m = 1} {n = 2} tt) h)
mag_exact f (fin s m e) F n =
    let k = says f s m e F in
    let w = units_whole f m e k.1 in
    subst (Exact (prec f)) (sym w.1) (exact (prec f) m w.0 k.0)

mag_le : (f : Format) (x : Float) → T (fits f x) → mag f x ≤ overflow f
mag_le f nan F = le_of_lt (pow_pos _)
mag_le f (inf s) F = le_of_eq refl
mag_le f (fin s m e) F = le_of_lt (units_under f s m e F)

-- ---- the pattern
top_code : (f : Format) → code (prec f) (overflow f) ≡ ones f * hid f
unfolding size
top_code binary32 = refl
top_code binary64 = refl

bits_is : (f : Format) (x : Float) → T (not (is_nan x)) → to_bits f x ≡ cond (negative x) (top f) 0 + code (prec f) (mag f x)
unfolding to_bits is_nan
bits_is f nan n = absurd n
bits_is f (inf s) n = ap (λ (x : ℕ). cond s (top f) 0 + x) (sym (top_code f))
bits_is f (fin s m e) n = add_assoc (cond s (top f) 0) _ _

-- ---- `before`, by the signs and the sizes: ±a before ±b
abbrev ordered : Bool → ℕ → Bool → ℕ → Bool
ordered false a false b = ltb a b
ordered false a true b = false
ordered true a false b = true
ordered true a true b = ltb b a

-- the test of two finite sizes
sizes : (f : Format) (s t : Bool) (m n : ℕ) (e d : ℤ) → T (fits f (fin s m e)) → T (fits f (fin t n d)) → ltb (m * up e * down d) (n * up d * down e) ≡ ltb (units_of f m e) (units_of f n d)
sizes f s t m n e d F G =
    let L = 2 ^ low f in
    let M = units_of f m e in
    let N = units_of f n d in
    let x = (units_whole f m e (says f s m e F).1).2 in
    let y = (units_whole f n d (says f t n d G).1).2 in
    same_test (m * up e * down d) (n * up d * down e) M N
    (λ h. le_of_mul-le-mul_right (transfer N M L L (n * up d) (m * up e) (down d) (down e) (down_pos d) (down_pos e) (sym y) (sym x) h) (pow_pos (low f)))
    (λ h. transfer (n * up d) (m * up e) (down d) (down e) N M L L (pow_pos (low f)) (pow_pos (low f)) y x (mul-le-mul_right L h))

-- what the tests of `before` come to, a and b being `lt` both ways
abbrev order : (a b s t : Bool) → Bool
order a b s t = cond a true (not b && (s && not t))

same_sign : (a b s : Bool) → order a b s s ≡ a
same_sign true b s = refl
same_sign false true s = refl
same_sign false false true = refl
same_sign false false false = refl

plus_first : (b : Bool) → order false b false true ≡ false
plus_first true = refl
plus_first false = refl

minus_first : (a : Bool) → order a false true false ≡ true
minus_first true = refl
minus_first false = refl

not_less : (n : ℕ) → ltb n n ≡ false
not_less n = le-ltb n n (le_of_eq refl)

by_size : (f : Format) (x y : Float) → T (fits f x) → T (fits f y) → T (not (is_nan x)) → T (not (is_nan y)) → before x y ≡ ordered (negative x) (mag f x) (negative y) (mag f y)
unfolding before lt is_nan
by_size f nan y F G p q = absurd p
by_size f (inf s) nan F G p q = absurd q
by_size f (fin s m e) nan F G p q = absurd q
by_size f (inf true) (inf true) F G p q = sym (not_less (overflow f))
by_size f (inf true) (inf false) F G p q = refl
by_size f (inf false) (inf true) F G p q = refl
by_size f (inf false) (inf false) F G p q = sym (not_less (overflow f))
by_size f (inf true) (fin true n d) F G p q = sym (lt-ltb (units_of f n d) (overflow f) (units_under f true n d G))
by_size f (inf true) (fin false n d) F G p q = refl
by_size f (inf false) (fin true n d) F G p q = refl
by_size f (inf false) (fin false n d) F G p q = sym (le-ltb (overflow f) (units_of f n d) (le_of_lt (units_under f false n d G)))
by_size f (fin true m e) (inf true) F G p q = sym (le-ltb (overflow f) (units_of f m e) (le_of_lt (units_under f true m e F)))
by_size f (fin true m e) (inf false) F G p q = refl
by_size f (fin false m e) (inf true) F G p q = refl
by_size f (fin false m e) (inf false) F G p q = sym (lt-ltb (units_of f m e) (overflow f) (units_under f false m e F))
by_size f (fin false m e) (fin false n d) F G p q = same_sign (ltb (m * up e * down d) (n * up d * down e)) (ltb (n * up d * down e) (m * up e * down d)) false ∙ sizes f false false m n e d F G
by_size f (fin true m e) (fin true n d) F G p q = same_sign (ltb (n * up d * down e) (m * up e * down d)) (ltb (m * up e * down d) (n * up d * down e)) true ∙ sizes f true true n m d e G F
by_size f (fin false m e) (fin true n d) F G p q = plus_first (ltb 0 (n * up d * down e + m * up e * down d))
by_size f (fin true m e) (fin false n d) F G p q = minus_first (ltb 0 (m * up e * down d + n * up d * down e))

-- ---- the key, by the sign and the pattern without it
abbrev key_of : Bool → ℕ → ℕ
key_of false c = 0x8000_0000_0000_0000 + c
key_of true c = 0x7FFF_FFFF_FFFF_FFFF - c

abbrev bare : Float → ℕ
bare x = code 53 (mag binary64 x)

bare_le : (x : Float) → T (fits binary64 x) → bare x ≤ 0x7FF0_0000_0000_0000
unfolding is_nan
bare_le x F = ⊎_elim
    (λ (e : mag binary64 x ≡ overflow binary64). le_of_eq (ap (code 53) e ∙ top_code binary64))
    (λ (l : mag binary64 x < overflow binary64). le_of_lt
    (lt_of_lt_of_le (code_mono 53 (mag binary64 x) (overflow binary64) (one binary64) (mag_exact binary64 (inf false) F' tt) l) (le_of_eq (top_code binary64))))
    (eq-or-lt_of_le (mag_le binary64 x F))
  where
    F' : T (fits binary64 (inf false))
    F' = inf-fits binary64 false

key_is : (x : Float) → T (fits binary64 x) → T (not (is_nan x)) → order_key x ≡ key_of (negative x) (bare x)
unfolding order_key
key_is x F n = go (negative x) (to_bits binary64 x) (bare x) (bits_is binary64 x n) (bare_le x F)
  where
    go : (s : Bool) (b c : ℕ) → b ≡ cond s 0x8000_0000_0000_0000 0 + c → c ≤ 0x7FF0_0000_0000_0000
        → cond (ltb b 0x8000_0000_0000_0000) (b + 0x8000_0000_0000_0000) (0xFFFF_FFFF_FFFF_FFFF - b) ≡ key_of s c
    go false b c e h = ap (λ (t : Bool). cond t (b + 0x8000_0000_0000_0000) (0xFFFF_FFFF_FFFF_FFFF - b)) (lt-ltb b 0x8000_0000_0000_0000 (omega arith)) ∙ omega arith
    go true b c e h = ap (λ (t : Bool). cond t (b + 0x8000_0000_0000_0000) (0xFFFF_FFFF_FFFF_FFFF - b)) (le-ltb b 0x8000_0000_0000_0000 (omega arith)) ∙ omega arith

pub key_nan : order_key nan ≡ 0xFFF8_0000_0000_0000
unfolding order_key to_bits
key_nan = refl

-- every number's key is below it
pub number_key : (x : Float) → T (fits binary64 x) → is_nan x ≡ false → order_key x < order_key nan
number_key x F p = go (negative x) (bare x) (order_key x) (order_key nan) (key_is x F (no p)) (bare_le x F) key_nan
  where
    go : (s : Bool) (c k l : ℕ) → k ≡ key_of s c → c ≤ 0x7FF0_0000_0000_0000 → l ≡ 0xFFF8_0000_0000_0000 → k < l
    go false c k l e h g = omega arith
    go true c k l e h g = omega arith

-- ---- the laws

by_key : (x y : Float) → T (fits binary64 x) → T (fits binary64 y) → T (not (is_nan x)) → T (not (is_nan y)) → before x y ≡ ltb (order_key x) (order_key y)
by_key x y F G p q =
    by_size binary64 x y F G p q
    ∙ go (negative x) (negative y) (mag binary64 x) (mag binary64 y) (bare x) (bare y) (bare_le x F) (bare_le y G) (codes x y F G p q) (codes y x G F q p)
    ∙ ap (λ (k : ℕ). ltb k (key_of (negative y) (bare y))) (sym (key_is x F p))
    ∙ ap (λ (k : ℕ). ltb (order_key x) k) (sym (key_is y G q))
  where
    codes : (x y : Float) → T (fits binary64 x) → T (fits binary64 y) → T (not (is_nan x)) → T (not (is_nan y)) → ltb (mag binary64 x) (mag binary64 y) ≡ ltb (bare x) (bare y)
    codes x y F G p q = code_same 53 (mag binary64 x) (mag binary64 y) (one binary64) (mag_exact binary64 x F p) (mag_exact binary64 y G q)

    go : (s t : Bool) (a b c d : ℕ) → c ≤ 0x7FF0_0000_0000_0000 → d ≤ 0x7FF0_0000_0000_0000 → ltb a b ≡ ltb c d → ltb b a ≡ ltb d c
        → ordered s a t b ≡ ltb (key_of s c) (key_of t d)
    go false false a b c d C D h k = h ∙ same_test c d (key_of false c) (key_of false d) (λ g. omega arith) (λ g. omega arith)
    go false true a b c d C D h k = sym (le-ltb (key_of false c) (key_of true d) (omega arith))
    go true false a b c d C D h k = sym (lt-ltb (key_of true c) (key_of false d) (omega arith))
    go true true a b c d C D h k = k ∙ same_test d c (key_of true c) (key_of true d) (λ g. omega arith) (λ g. omega arith)

last : (y : Float) → T (fits binary64 y) → order_key y ≤ order_key nan
unfolding is_nan
last nan G = le_of_eq refl
last (inf s) G = le_of_lt (number_key (inf s) G refl)
last (fin s m e) G = le_of_lt (number_key (fin s m e) G refl)

-- x is before y exactly where its key is smaller
pub before_key : (x y : Float) → T (fits binary64 x) → T (fits binary64 y) → before x y ≡ ltb (order_key x) (order_key y)
unfolding before is_nan
before_key nan y F G = sym (le-ltb (order_key nan) (order_key y) (last y G))
before_key (inf s) nan F G = sym (lt-ltb (order_key (inf s)) (order_key nan) (number_key (inf s) F refl))
before_key (fin s m e) nan F G = sym (lt-ltb (order_key (fin s m e)) (order_key nan) (number_key (fin s m e) F refl))
before_key (inf s) (inf t) F G = by_key (inf s) (inf t) F G tt tt
before_key (inf s) (fin t n d) F G = by_key (inf s) (fin t n d) F G tt tt
before_key (fin s m e) (inf t) F G = by_key (fin s m e) (inf t) F G tt tt
before_key (fin s m e) (fin t n d) F G = by_key (fin s m e) (fin t n d) F G tt tt

-- no two values have the same key
pub key_same : (x y : Float) → T (fits binary64 x) → T (fits binary64 y) → order_key x ≡ order_key y → x ≡ y
unfolding order_key
key_same x y F G h =
    let b = to_bits binary64 x in
    let c = to_bits binary64 y in
    sym (of_bits-to_bits binary64 x F)
    ∙ ap (of_bits binary64) (go b c (to_bits-lt binary64 x F) (to_bits-lt binary64 y G) (ltb b 0x8000_0000_0000_0000) (ltb c 0x8000_0000_0000_0000) refl refl h)
    ∙ of_bits-to_bits binary64 y G
  where
    go : (b c : ℕ) → b < 2 ^ 64 → c < 2 ^ 64 → (t u : Bool) → ltb b 0x8000_0000_0000_0000 ≡ t → ltb c 0x8000_0000_0000_0000 ≡ u
        → cond t (b + 0x8000_0000_0000_0000) (0xFFFF_FFFF_FFFF_FFFF - b) ≡ cond u (c + 0x8000_0000_0000_0000) (0xFFFF_FFFF_FFFF_FFFF - c) → b ≡ c
    go b c l r true true p q h = omega arith
    go b c l r true false p q h = absurd (omega (arith, ltb-false c 0x8000_0000_0000_0000 q))
    go b c l r false true p q h = absurd (omega (arith, ltb-false b 0x8000_0000_0000_0000 p))
    go b c l r false false p q h = omega arith
