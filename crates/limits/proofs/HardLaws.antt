-- What hard means for a value: off, the step comes last; on, with both limits set and minimum at most maximum, it lies between them. Assumes nothing.
-- The larger of anything and the minimum is a number not below it, a NaN giving the minimum; the smaller of that and the maximum is still not below the minimum.
use mathlib.Core.Path.{◌≡◌, refl, sym, ap, ◌∙◌}
use mathlib.Core.Bool.{Bool, true, false, not, cond, false≢true}
use lib.Ieee.{Float, lt, le, is_nan}
use Rattle.numbers.specs.Bounds.{max_num, min_num}
use Rattle.numbers.proofs.Compare.{le_not, le_self, le_left, le_right}
use Rattle.numbers.proofs.Tests.{and_both}
use Rattle.limits.specs.Limits.{at_least, at_most, to_step, bounded, constrained, lies_between}
use Rattle.limits.specs.Promised.{HardHolds}
use Rattle.limits.specs.declared.Limits.{Limits}

module _ (low high : Float) (o : le low high ≡ true) where
  low_number : is_nan low ≡ false
  low_number = le_left low high o

  high_number : is_nan high ≡ false
  high_number = le_right low high o

  -- the larger of anything and the minimum
  least : (x : Float) → (is_nan (max_num x low) ≡ false) × (le low (max_num x low) ≡ true)
  unfolding max_num
  least x = go (is_nan x) refl (lt x low) refl
    where
      go : (t : Bool) → is_nan x ≡ t → (b : Bool) → lt x low ≡ b → (is_nan (cond t low (cond b low x)) ≡ false) × (le low (cond t low (cond b low x)) ≡ true)
      go true t b h = (low_number, le_self low low_number)
      go false t true h = (low_number, le_self low low_number)
      go false t false h = (t, le_not x low t low_number ∙ ap not h)

  -- the smaller of a number that is not below the minimum and the maximum
  most : (x : Float) → is_nan x ≡ false → le low x ≡ true → lies_between low high (min_num x high) ≡ true
  unfolding min_num
  most x n a = go (is_nan x) n (lt high x) refl
    where
      go : (t : Bool) → t ≡ false → (b : Bool) → lt high x ≡ b → lies_between low high (cond t high (cond b high x)) ≡ true
      go true t b h = absurd (false≢true (sym t))
      go false t true h = and_both o (le_self high high_number)
      go false t false h = and_both a (le_not high x high_number n ∙ ap not h)

  -- both, whatever comes
  clamp_between : (x : Float) → lies_between low high (min_num (max_num x low) high) ≡ true
  clamp_between x = most (max_num x low) (least x).0 (least x).1

-- with hard off, the step comes last
pub soft_is : (l : Limits) (v : Float) → l.hard ≡ false → constrained l v ≡ to_step l.step_size (bounded l v)
unfolding constrained
soft_is l v h = rw h refl

-- with hard on, the bounds do
pub hard_is : (l : Limits) (v : Float) → l.hard ≡ true → constrained l v ≡ bounded l (to_step l.step_size (bounded l v))
unfolding constrained
hard_is l v h = rw h refl

pub hard_holds : HardHolds
hard_holds l low high held v =
    let x = to_step l.step_size (bounded l v) in
    let e : bounded l x ≡ min_num (max_num x low) high = λ i. at_most (held.maximum i) (at_least (held.minimum i) x) in
    ap (lies_between low high) (hard_is l v held.hard ∙ e) ∙ clamp_between low high held.order x
