-- Comparisons of floats as numbers, and what the keys of the total order say of them. Assumes nothing.
-- A comparison holds of no NaN. Of two numbers a smaller one has a lower key; a lower key that isn't a smaller number's is that of -0.0, below 0.0's.
use Rattle.std.proofs.Common.{◌≡◌, ℕ, zero, suc, ◌+◌, ◌*◌, ◌<◌, ◌≤◌, Bool, true, false, not, ◌&&◌, ◌||◌, T, eqb, ltb, ℤ, pos, sym, refl, ap, ◌∙◌, ap₂, zero-lt-suc, mul-pos, arith, eqb→eq, ltb-false, ltb-true, le-ltb, lt-ltb, eq-eqb, ne_eqb}
use mathlib.Core.Bool.{false≢true}
use lib.Ieee.{Float, nan, inf, fin, binary64, up, down, below, level, lt, eq, le, fits, is_nan, to_bits}
use lib.Ieee.Fits.{up_pos, down_pos}
use Rattle.numbers.specs.Bounds.{finite}
use Rattle.numbers.specs.Order.{negative, before, order_key}
use Rattle.numbers.proofs.OrderLaws.{before_key, key_same, number_key}
use Rattle.numbers.proofs.Units.{flat}

-- ---- as numbers

-- a comparison holds of no NaN
pub lt_left : (x y : Float) → lt x y ≡ true → is_nan x ≡ false
unfolding lt is_nan
lt_left nan y h = absurd (false≢true h)
lt_left (inf s) y h = refl
lt_left (fin s m e) y h = refl

pub lt_right : (x y : Float) → lt x y ≡ true → is_nan y ≡ false
unfolding lt is_nan
lt_right nan nan h = absurd (false≢true h)
lt_right (inf s) nan h = absurd (false≢true h)
lt_right (fin s m e) nan h = absurd (false≢true h)
lt_right x (inf t) h = refl
lt_right x (fin t n d) h = refl

pub le_left : (x y : Float) → le x y ≡ true → is_nan x ≡ false
unfolding le lt eq is_nan
le_left nan y h = absurd (false≢true h)
le_left (inf s) y h = refl
le_left (fin s m e) y h = refl

pub le_right : (x y : Float) → le x y ≡ true → is_nan y ≡ false
unfolding le lt eq is_nan
le_right nan nan h = absurd (false≢true h)
le_right (inf s) nan h = absurd (false≢true h)
le_right (fin s m e) nan h = absurd (false≢true h)
le_right x (inf t) h = refl
le_right x (fin t n d) h = refl

pub finite_number : (x : Float) → finite x ≡ true → is_nan x ≡ false
unfolding finite is_nan
finite_number nan h = absurd (false≢true h)
finite_number (inf s) h = refl
finite_number (fin s m e) h = refl

-- of two sizes with their signs
sizes : (s t : Bool) (a b : ℕ) → (below t b s a || level t b s a) ≡ not (below s a t b)
sizes false false a b = go (ltb a b) refl
  where
    go : (c : Bool) → ltb a b ≡ c → (ltb b a || (eqb b a && true)) ≡ not c
    go true h = rw (le-ltb b a (omega (arith, ltb-true a b h)), ne_eqb b a (λ e. omega (arith, ltb-true a b h)))
    go false h = more (ltb b a) refl
      where
        more : (d : Bool) → ltb b a ≡ d → (d || (eqb b a && true)) ≡ true
        more true g = refl
        more false g = rw (eq-eqb b a (omega (arith, ltb-false a b h, ltb-false b a g)))
sizes false true a b = go (ltb 0 (b + a)) refl
  where
    go : (c : Bool) → ltb 0 (b + a) ≡ c → (c || (eqb b a && eqb b 0)) ≡ true
    go true h = refl
    go false h = rw (eq-eqb b a (omega (arith, ltb-false 0 (b + a) h)), eq-eqb b 0 (omega (arith, ltb-false 0 (b + a) h)))
sizes true false a b = go (ltb 0 (a + b)) refl
  where
    go : (c : Bool) → ltb 0 (a + b) ≡ c → (eqb b a && eqb b 0) ≡ not c
    go true h = more (eqb b a) refl
      where
        more : (d : Bool) → eqb b a ≡ d → (d && eqb b 0) ≡ false
        more true g = ne_eqb b 0 (λ e. omega (arith, ltb-true 0 (a + b) h, eqb→eq b a (rw g tt)))
        more false g = refl
    go false h = rw (eq-eqb b a (omega (arith, ltb-false 0 (a + b) h)), eq-eqb b 0 (omega (arith, ltb-false 0 (a + b) h)))
sizes true true a b = go (ltb b a) refl
  where
    go : (c : Bool) → ltb b a ≡ c → (ltb a b || (eqb b a && true)) ≡ not c
    go true h = rw (le-ltb a b (omega (arith, ltb-true b a h)), ne_eqb b a (λ e. omega (arith, ltb-true b a h)))
    go false h = more (ltb a b) refl
      where
        more : (d : Bool) → ltb a b ≡ d → (d || (eqb b a && true)) ≡ true
        more true g = refl
        more false g = rw (eq-eqb b a (omega (arith, ltb-false b a h, ltb-false a b g)))

-- of two numbers, one is at most the other exactly where that isn't below it
pub le_not : (x y : Float) → is_nan x ≡ false → is_nan y ≡ false → le y x ≡ not (lt x y)
unfolding le lt eq is_nan
le_not nan y p q = absurd (false≢true (sym p))
le_not (inf s) nan p q = absurd (false≢true (sym q))
le_not (fin s m e) nan p q = absurd (false≢true (sym q))
le_not (inf true) (inf true) p q = refl
le_not (inf true) (inf false) p q = refl
le_not (inf false) (inf true) p q = refl
le_not (inf false) (inf false) p q = refl
le_not (inf true) (fin t n d) p q = refl
le_not (inf false) (fin t n d) p q = refl
le_not (fin s m e) (inf true) p q = refl
le_not (fin s m e) (inf false) p q = refl
le_not (fin s m e) (fin t n d) p q = sizes s t (m * up e * down d) (n * up d * down e)

-- a value against itself
pub lt_self : (x : Float) → lt x x ≡ false
unfolding lt
lt_self nan = refl
lt_self (inf true) = refl
lt_self (inf false) = refl
lt_self (fin true m e) = le-ltb (m * up e * down e) (m * up e * down e) (omega arith)
lt_self (fin false m e) = le-ltb (m * up e * down e) (m * up e * down e) (omega arith)

pub le_self : (x : Float) → is_nan x ≡ false → le x x ≡ true
le_self x p = le_not x x p p ∙ ap not (lt_self x)

-- ---- by their keys

-- a smaller number has a lower key
pub lt_key : (x y : Float) → T (fits binary64 x) → T (fits binary64 y) → lt x y ≡ true → order_key x < order_key y
lt_key x y F G h = ltb-true (order_key x) (order_key y) (sym (before_key x y F G) ∙ is (lt_left x y h) (lt_right x y h) h)
  where
    is : is_nan x ≡ false → is_nan y ≡ false → lt x y ≡ true → before x y ≡ true
    is p q h = unfold before in rw (p, q, h)

-- what has no higher key than a number is a number, and at most it
pub key_number : (x y : Float) → T (fits binary64 y) → order_key x ≤ order_key y → is_nan y ≡ false → is_nan x ≡ false
unfolding is_nan
key_number nan y G h q = absurd (omega (arith, number_key y G q))
key_number (inf s) y G h q = refl
key_number (fin s m e) y G h q = refl

pub key_le : (x y : Float) → T (fits binary64 x) → T (fits binary64 y) → order_key x ≤ order_key y → is_nan y ≡ false → le x y ≡ true
key_le x y F G h q = le_not y x q (key_number x y G h q) ∙ ap not (go (lt y x) refl)
  where
    go : (b : Bool) → lt y x ≡ b → b ≡ false
    go true e = absurd (omega (arith, lt_key y x G F e))
    go false e = refl

-- a lower key that isn't a smaller number's: -0.0 and 0.0
no_size : (m : ℕ) (e d : ℤ) → m * up e * down d ≤ 0 → m ≡ 0
no_size zero e d h = refl
no_size (suc m) e d h = absurd (omega (arith, mul-pos (mul-pos (zero-lt-suc m) (up_pos e)) (down_pos d)))

zero_is : (s : Bool) (m : ℕ) (e : ℤ) → T (fits binary64 (fin s m e)) → m ≡ 0 → fin s m e ≡ fin s 0 (pos 0)
unfolding fits
zero_is s zero e F h = ap (fin s 0) (flat e (eqb→eq (up e * down e) 1 F))
zero_is s (suc m) e F h = absurd (omega arith)

zeros : (x y : Float) → T (fits binary64 x) → T (fits binary64 y) → is_nan x ≡ false → is_nan y ≡ false → lt x y ≡ false → negative x ≡ true → negative y ≡ false
    → (x ≡ fin true 0 (pos 0)) × (y ≡ fin false 0 (pos 0))
unfolding lt is_nan
zeros nan y F G p q l a b = absurd (false≢true (sym p))
zeros (inf s) nan F G p q l a b = absurd (false≢true (sym q))
zeros (fin s m e) nan F G p q l a b = absurd (false≢true (sym q))
zeros (inf s) (inf t) F G p q l a b = absurd (false≢true (sym l ∙ ap₂ (λ (u v : Bool). u && not v) a b))
zeros (inf s) (fin t n d) F G p q l a b = absurd (false≢true (sym l ∙ a))
zeros (fin s m e) (inf t) F G p q l a b = absurd (false≢true (sym l ∙ ap not b))
zeros (fin false m e) (fin t n d) F G p q l a b = absurd (false≢true a)
zeros (fin true m e) (fin true n d) F G p q l a b = absurd (false≢true (sym b))
zeros (fin true m e) (fin false n d) F G p q l a b =
    let z = ltb-false 0 (m * up e * down d + n * up d * down e) l in
    (zero_is true m e F (no_size m e d (omega arith)), zero_is false n d G (no_size n d e (omega arith)))

key_zeros : (order_key (fin true 0 (pos 0)) ≡ 0x7FFF_FFFF_FFFF_FFFF) × (order_key (fin false 0 (pos 0)) ≡ 0x8000_0000_0000_0000)
unfolding order_key to_bits
key_zeros = (refl, refl)

by_sign : (x y : Float) → is_nan x ≡ false → is_nan y ≡ false → lt x y ≡ false → before x y ≡ (not (lt y x) && (negative x && not (negative y)))
unfolding before
by_sign x y p q l = rw (p, q, l)

signs : (x y : Float) → T (fits binary64 x) → T (fits binary64 y) → is_nan x ≡ false → is_nan y ≡ false → lt x y ≡ false → order_key x < order_key y
    → (negative x ≡ true) × (negative y ≡ false)
signs x y F G p q l k = go (not (lt y x)) (negative x) (negative y) (sym (by_sign x y p q l) ∙ before_key x y F G ∙ lt-ltb (order_key x) (order_key y) k)
  where
    go : (a s t : Bool) → (a && (s && not t)) ≡ true → (s ≡ true) × (t ≡ false)
    go true true false h = (refl, refl)
    go true true true h = absurd (false≢true h)
    go true false t h = absurd (false≢true h)
    go false s t h = absurd (false≢true h)

-- of four times whose keys rise, the middle two strictly as numbers, so do the outer ones
pub lt_around : (w x y z : Float) → T (fits binary64 w) → T (fits binary64 x) → T (fits binary64 y) → T (fits binary64 z) → is_nan w ≡ false → is_nan z ≡ false
    → order_key w ≤ order_key x → lt x y ≡ true → order_key y ≤ order_key z → lt w z ≡ true
lt_around w x y z W X Y Z p q a h b = go (lt_key x y X Y h) (lt w z) refl
  where
    go : order_key x < order_key y → (t : Bool) → lt w z ≡ t → lt w z ≡ true
    go k true l = l
    go k false l =
        let s = signs w z W Z p q l (omega arith) in
        let o = zeros w z W Z p q l s.0 s.1 in
        let u : order_key w ≡ 0x7FFF_FFFF_FFFF_FFFF = ap order_key o.0 ∙ key_zeros.0 in
        let v : order_key z ≡ 0x8000_0000_0000_0000 = ap order_key o.1 ∙ key_zeros.1 in
        ap₂ lt (key_same w x W X (omega arith)) (key_same z y Z Y (omega arith)) ∙ h
