-- An operation that rounds a fraction made of its argument's size, and keeps its sign, keeps the order if the fractions are in the order of the sizes. Assumes nothing.
use Rattle.std.proofs.Common.{◌≡◌, ℕ, zero, suc, ◌+◌, ◌*◌, ◌^◌, ◌<◌, ◌≤◌, Bool, true, false, cond, not, ◌&&◌, ◌||◌, T, eqb, ltb, ℤ, sym, refl, ap, ◌∙◌, subst, ap₂, le_of_eq, le_of_lt, eqb→eq, ltb-false, ltb-true, le-ltb}
use mathlib.Core.Bool.{and-false, false≢true}
use lib.Ieee.{Float, nan, inf, fin, Format, prec, emax, low, up, down, odd, units, round, neg, lt, eq, le, is_nan}
use lib.Ieee.Fits.{and_l, round_is}
use lib.Ieee.Order.{round_mono}
use Rattle.numbers.proofs.Halves.{neg_round}
use Rattle.numbers.specs.Order.{before}

-- ---- what `round` gives: a number without a sign, or the opposite of it

data Plus : Float → Type 0 where
  infinity : Plus (inf false)
  number : {m : ℕ} {e : ℤ} → Plus (fin false m e)

odd_plus : (d q k l : ℕ) → Plus (odd d false q k l)
unfolding odd
odd_plus d zero k l = number
odd_plus d (suc q) k l = number

units_plus : (f : Format) (q k : ℕ) → Plus (units f false q k)
unfolding units
units_plus f q k = go (ltb (q * 2 ^ k) (2 ^ (low f + suc (emax f))))
  where
    go : (b : Bool) → Plus (cond b (odd (suc (prec f)) false q k (low f)) (inf false))
    go true = odd_plus (suc (prec f)) q k (low f)
    go false = infinity

round_plus : (f : Format) (a b : ℕ) → Plus (round f false a b)
round_plus f a b = subst Plus (sym (round_is f false a b)) (units_plus f _ _)

round_minus : (f : Format) (a b : ℕ) → round f true a b ≡ neg (round f false a b)
round_minus f a b = sym (neg_round f false a b)

plus_number : {x : Float} → Plus x → (is_nan x ≡ false) × (is_nan (neg x) ≡ false)
unfolding is_nan neg
plus_number infinity = (refl, refl)
plus_number number = (refl, refl)

round_number : (f : Format) (s : Bool) (a b : ℕ) → is_nan (round f s a b) ≡ false
round_number f false a b = (plus_number (round_plus f a b)).0
round_number f true a b = ap is_nan (round_minus f a b) ∙ (plus_number (round_plus f a b)).1

-- ---- which of them are not before which

le_not_lt : (a b : ℕ) → T (ltb a b || (eqb a b && true)) → ltb b a ≡ false
le_not_lt a b = go (ltb a b) refl
  where
    go : (t : Bool) → ltb a b ≡ t → T (t || (eqb a b && true)) → ltb b a ≡ false
    go true e h = le-ltb b a (le_of_lt (ltb-true a b e))
    go false e h = le-ltb b a (le_of_eq (eqb→eq a b (and_l (eqb a b) true h)))

-- of two with the same sign the tests of `before` come to the first
same_sign : (a b : ℕ) → ltb b a ≡ false → cond (ltb b a) true (not (ltb a b) && false) ≡ false
same_sign a b h = rw h (and-false (not (ltb a b)))

-- for x ≤ y, y is not before x, and so with their opposites the other way round
same_order : {x y : Float} → Plus x → Plus y → T (le x y) → (before y x ≡ false) × (before (neg x) (neg y) ≡ false)
unfolding before le lt eq is_nan neg
same_order infinity infinity h = (refl, refl)
same_order infinity number h = absurd h
same_order number infinity h = (refl, refl)
same_order (number {m = m} {e = e}) (number {m = n} {e = d}) h =
    let t = same_sign (m * up e * down d) (n * up d * down e) (le_not_lt (m * up e * down d) (n * up d * down e) h) in
    (t, t)

mixed_order : {x y : Float} → Plus x → Plus y → before x (neg y) ≡ false
unfolding before lt is_nan neg
mixed_order infinity infinity = refl
mixed_order infinity number = refl
mixed_order number infinity = refl
mixed_order (number {m = m} {e = e}) (number {m = n} {e = d}) = and-false (not (ltb 0 (n * up d * down e + m * up e * down d)))

-- nothing is before -infinity, and infinity before no number
first : (x : Float) → before x (inf true) ≡ false
unfolding before lt is_nan
first nan = refl
first (inf true) = refl
first (inf false) = refl
first (fin s m e) = refl

last : (x : Float) → is_nan x ≡ false → before (inf false) x ≡ false
unfolding before lt is_nan
last nan h = absurd (false≢true (sym h))
last (inf true) h = refl
last (inf false) h = refl
last (fin s m e) h = refl

finite_between : (s : Bool) (m : ℕ) (e : ℤ) → (before (inf true) (fin s m e) ≡ true) × (before (fin s m e) (inf false) ≡ true)
unfolding before lt is_nan
finite_between s m e = (refl, refl)

-- ---- what it says of the sizes that y is not before x

not_past : (a b : ℕ) → cond (ltb b a) true (not (ltb a b) && false) ≡ false → a ≤ b
not_past a b = go (ltb b a) refl
  where
    go : (t : Bool) → ltb b a ≡ t → cond t true (not (ltb a b) && false) ≡ false → a ≤ b
    go true g h = absurd (false≢true (sym h))
    go false g h = ltb-false b a g

plus_sizes : (m n : ℕ) (e d : ℤ) → before (fin false n d) (fin false m e) ≡ false → m * up e * down d ≤ n * up d * down e
unfolding before lt is_nan
plus_sizes m n e d = not_past (m * up e * down d) (n * up d * down e)

minus_sizes : (m n : ℕ) (e d : ℤ) → before (fin true n d) (fin true m e) ≡ false → n * up d * down e ≤ m * up e * down d
unfolding before lt is_nan
minus_sizes m n e d = not_past (n * up d * down e) (m * up e * down d)

-- what has a sign is before what has none
minus_before : (m n : ℕ) (e d : ℤ) → before (fin true n d) (fin false m e) ≡ true
unfolding before lt is_nan
minus_before m n e d = go (ltb 0 (n * up d * down e + m * up e * down d))
  where
    go : (t : Bool) → cond t true true ≡ true
    go true = refl
    go false = refl

-- ---- the operation

-- It rounds num m e / den e where its argument is m * 2 ^ e in size. An infinity stays.
pub record Rounds (f : Format) (op : Float → Float) : Type 0 where
  pub num : ℕ → ℤ → ℕ
  pub den : ℤ → ℕ
  pub at_inf : (s : Bool) → op (inf s) ≡ inf s
  pub at_fin : (s : Bool) (m : ℕ) (e : ℤ) → op (fin s m e) ≡ round f s (num m e) (den e)
  pub above : (e : ℤ) → 0 < den e
  pub cross : (m n : ℕ) (e d : ℤ) → m * up e * down d ≤ n * up d * down e → num m e * den d ≤ num n d * den e

module _ {f : Format} {op : Float → Float} (r : Rounds f op) where
  plus_mono : (m n : ℕ) (e d : ℤ) → m * up e * down d ≤ n * up d * down e → T (le (round f false (r.num m e) (r.den e)) (round f false (r.num n d) (r.den d)))
  plus_mono m n e d h = round_mono f (r.num m e) (r.den e) (r.num n d) (r.den d) (r.above e) (r.above d) (r.cross m n e d h)

  number_order : (s t : Bool) (m n : ℕ) (e d : ℤ) → before (fin t n d) (fin s m e) ≡ false → before (round f t (r.num n d) (r.den d)) (round f s (r.num m e) (r.den e)) ≡ false
  number_order false false m n e d h = (same_order (round_plus f _ _) (round_plus f _ _) (plus_mono m n e d (plus_sizes m n e d h))).0
  number_order true false m n e d h = ap (before (round f false (r.num n d) (r.den d))) (round_minus f _ _) ∙ mixed_order (round_plus f _ _) (round_plus f _ _)
  number_order false true m n e d h = absurd (false≢true (sym h ∙ minus_before m n e d))
  number_order true true m n e d h = ap₂ before (round_minus f _ _) (round_minus f _ _) ∙ (same_order (round_plus f _ _) (round_plus f _ _) (plus_mono n m d e (minus_sizes m n e d h))).1

  -- where y is not before x, it is not after the operation
  pub keeps_order : (x y : Float) → is_nan x ≡ false → is_nan y ≡ false → before y x ≡ false → before (op y) (op x) ≡ false
  unfolding is_nan
  keeps_order nan y p q h = absurd (false≢true (sym p))
  keeps_order (inf s) nan p q h = absurd (false≢true (sym q))
  keeps_order (fin s m e) nan p q h = absurd (false≢true (sym q))
  keeps_order (inf s) (inf t) p q h = ap₂ before (r.at_inf t) (r.at_inf s) ∙ h
  keeps_order (inf true) (fin t n d) p q h = ap (before (op (fin t n d))) (r.at_inf true) ∙ first (op (fin t n d))
  keeps_order (inf false) (fin t n d) p q h = absurd (false≢true (sym h ∙ (finite_between t n d).1))
  keeps_order (fin s m e) (inf true) p q h = absurd (false≢true (sym h ∙ (finite_between s m e).0))
  keeps_order (fin s m e) (inf false) p q h = ap₂ before (r.at_inf false) (r.at_fin s m e) ∙ last _ (round_number f s _ _)
  keeps_order (fin s m e) (fin t n d) p q h = ap₂ before (r.at_fin t n d) (r.at_fin s m e) ∙ number_order s t m n e d h

  -- a number gives a number
  pub gives_number : (x : Float) → is_nan x ≡ false → is_nan (op x) ≡ false
  unfolding is_nan
  gives_number nan h = absurd (false≢true (sym h))
  gives_number (inf s) h = ap is_nan (r.at_inf s)
  gives_number (fin s m e) h = ap is_nan (r.at_fin s m e) ∙ round_number f s _ _
