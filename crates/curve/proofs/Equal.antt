-- Rust's derived `==` of two curves is `same_curve`: but for two Bezier curves that is a test of two numbers below 22. Assumes nothing.
use Rattle.std.proofs.Common.{◌≡◌, ℕ, Bool, true, false, not, ◌&&◌, ◌||◌, T, eqb, refl, subst, eqb-true}
use mathlib.Core.Bool.{beq}
use lib.Ieee.{Float, eq, of_bits}
use Rattle.curve.specs.contracts.CurveTypePartialEq.TheImpl as derived
use Rattle.curve.specs.declared.CurveType.{CurveType}
use Rattle.curve.specs.declared.CurveType.TheVariants.{Bezier}
use Rattle.curve.specs.Curve.{code, controls, curve_of, known, same_curve}
use Rattle.numbers.proofs.Tests.{and_left, and_right}
use Rattle.curve.proofs.Laws.{curve_of-code, code_lt, code_known, passes, passes_at}

abbrev equal : CurveType → CurveType → Bool
equal = (derived.ghosts).eq

both_bezier : (a b k l : Float) → equal (Bezier a b) (Bezier k l) ≡ same_curve (Bezier a b) (Bezier k l)
unfolding same_curve code controls
both_bezier a b k l = refl

bezier_is : (c : CurveType) → code c ≡ 5 → Bezier (controls c).cp1 (controls c).cp2 ≡ c
unfolding curve_of
bezier_is c h = rw h at (curve_of-code c)

module _ (a b k l : Float) where
  abbrev agree : ℕ → ℕ → Bool
  agree n m = not (known n) || not (known m) || eqb n 5 && eqb m 5 || beq (equal (curve_of n a b) (curve_of m k l)) (same_curve (curve_of n a b) (curve_of m k l))

  agree_all : T (passes (λ n. passes (agree n) 22) 22)
  unfolding same_curve code controls curve_of eq of_bits
  agree_all = tt

same_test : (a b : Bool) → T (beq a b) → a ≡ b
same_test true true h = refl
same_test false false h = refl
same_test true false h = absurd h
same_test false true h = absurd h

module _ (c d : CurveType) where
  abbrev a : Float
  a = (controls c).cp1

  abbrev b : Float
  b = (controls c).cp2

  abbrev k : Float
  k = (controls d).cp1

  abbrev l : Float
  l = (controls d).cp2

  of_bezier : code c ≡ 5 → code d ≡ 5 → equal c d ≡ same_curve c d
  of_bezier p q =
      subst (λ (x : CurveType). equal x d ≡ same_curve x d) (bezier_is c p)
      (subst (λ (y : CurveType). equal (Bezier a b) y ≡ same_curve (Bezier a b) y) (bezier_is d q) (both_bezier a b k l))

  by_numbers : (eqb (code c) 5 && eqb (code d) 5) ≡ false → equal c d ≡ same_curve c d
  by_numbers e =
      let row : T (passes (agree a b k l (code c)) 22) = passes_at (λ n. passes (agree a b k l n) 22) 22 (code c) (agree_all a b k l) (code_lt c) in
      let at : T (agree a b k l (code c) (code d)) = passes_at (agree a b k l (code c)) 22 (code d) row (code_lt d) in
      same_test (equal c d) (same_curve c d) (rw (code_known c, code_known d, e, curve_of-code c, curve_of-code d) at at)

  pub equal_is : equal c d ≡ same_curve c d
  equal_is = go (eqb (code c) 5 && eqb (code d) 5) refl
    where
      go : (t : Bool) → (eqb (code c) 5 && eqb (code d) 5) ≡ t → equal c d ≡ same_curve c d
      go true e = of_bezier (eqb-true (code c) 5 (and_left (eqb (code c) 5) (eqb (code d) 5) e)) (eqb-true (code d) 5 (and_right (eqb (code c) 5) (eqb (code d) 5) e))
      go false e = by_numbers e
