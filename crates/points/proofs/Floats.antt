-- The law of floats that the point's tests stand on: +0 alone has the pattern 0. Assumes nothing.
use Prim.Native.Nat.{ℕ, zero, suc}
use mathlib.Core.Path.{◌≡◌, refl, sym, ap, ◌∙◌}
use mathlib.Core.Bool.{Bool, true, false, false≢true}
use lib.Dec.{T, eqb, eqb-suc-zero}
use borrow.Author.Tests.{eqb-true}
use lib.IntN.{pos, negsuc}
use lib.Ieee.{Float, Format, fits, nan, inf, fin, binary32, binary64, to_bits, of_bits}
use lib.Ieee.Bits.{of_bits-to_bits}
use Rattle.numbers.proofs.BitLaws.{zero_bits}
use Rattle.numbers.proofs.Tests.{and_left}
use Rattle.points.specs.Point.{is_plus_zero}

pub zero_is : (x : Float) → is_plus_zero x ≡ true → x ≡ fin false 0 (pos 0)
zero_is nan h = absurd (false≢true h)
zero_is (inf s) h = absurd (false≢true h)
zero_is (fin true m e) h = absurd (false≢true h)
zero_is (fin false zero (pos zero)) h = refl
zero_is (fin false zero (pos (suc k))) h = absurd (false≢true (sym (eqb-suc-zero k) ∙ h))
zero_is (fin false zero (negsuc k)) h = absurd (false≢true h)
zero_is (fin false (suc m) e) h = absurd (false≢true (sym (eqb-suc-zero m) ∙ and_left _ _ h))

zero_pattern : (f : Format) → to_bits f (fin false 0 (pos 0)) ≡ 0
unfolding to_bits
zero_pattern binary32 = refl
zero_pattern binary64 = refl

pub pattern_zero : (f : Format) (x : Float) → T (fits f x) → eqb (to_bits f x) 0 ≡ is_plus_zero x
pattern_zero f x g = go (eqb (to_bits f x) 0) refl (is_plus_zero x) refl
  where
    go : (b : Bool) → eqb (to_bits f x) 0 ≡ b → (c : Bool) → is_plus_zero x ≡ c → b ≡ c
    go true e true k = refl
    go false e false k = refl
    go true e false k = absurd (false≢true (sym k ∙ ap is_plus_zero (sym (of_bits-to_bits f x g) ∙ ap (of_bits f) (eqb-true _ _ e) ∙ zero_bits f)))
    go false e true k = absurd (false≢true (sym e ∙ ap (λ (y : Float). eqb (to_bits f y) 0) (zero_is x k) ∙ ap (λ (n : ℕ). eqb n 0) (zero_pattern f)))
