-- The bounds applied twice are the bounds applied once. Assumes nothing.
use Rattle.std.specs.Prelude.{None, Option, Some}
use mathlib.Core.Path.{◌≡◌, refl, sym, ap, ◌∙◌}
use mathlib.Core.Bool.{Bool, true, false, cond, false≢true}
use lib.Ieee.{Float, lt, is_nan}
use Rattle.numbers.specs.Bounds.{max_num, min_num}
use Rattle.numbers.proofs.Compare.{lt_left}
use Rattle.limits.specs.Limits.{at_least, at_most, bounded}
use Rattle.limits.specs.declared.Limits.{Limits}

same : (t b : Bool) (x : Float) → cond t x (cond b x x) ≡ x
same true b x = refl
same false true x = refl
same false false x = refl

max_self : (m : Float) → max_num m m ≡ m
unfolding max_num
max_self m = same (is_nan m) (lt m m) m

min_self : (m : Float) → min_num m m ≡ m
unfolding min_num
min_self m = same (is_nan m) (lt m m) m

max_keeps : (v m : Float) → is_nan v ≡ false → lt v m ≡ false → max_num v m ≡ v
unfolding max_num
max_keeps v m n h = rw (n, h) refl

min_keeps : (v m : Float) → is_nan v ≡ false → lt m v ≡ false → min_num v m ≡ v
unfolding min_num
min_keeps v m n h = rw (n, h) refl

max_twice : (v m : Float) → max_num (max_num v m) m ≡ max_num v m
unfolding max_num
max_twice v m = go (is_nan v) refl (lt v m) refl
  where
    go : (t : Bool) → is_nan v ≡ t → (b : Bool) → lt v m ≡ b → max_num (cond t m (cond b m v)) m ≡ cond t m (cond b m v)
    go true t b h = max_self m
    go false t true h = max_self m
    go false t false h = max_keeps v m t h

min_twice : (v m : Float) → min_num (min_num v m) m ≡ min_num v m
unfolding min_num
min_twice v m = go (is_nan v) refl (lt m v) refl
  where
    go : (t : Bool) → is_nan v ≡ t → (b : Bool) → lt m v ≡ b → min_num (cond t m (cond b m v)) m ≡ cond t m (cond b m v)
    go true t b h = min_self m
    go false t true h = min_self m
    go false t false h = min_keeps v m t h

-- a larger that is a NaN was made of two
max_nan : (v m : Float) → is_nan (max_num v m) ≡ true → is_nan m ≡ true
unfolding max_num
max_nan v m = go (is_nan v) refl (lt v m)
  where
    go : (t : Bool) → is_nan v ≡ t → (b : Bool) → is_nan (cond t m (cond b m v)) ≡ true → is_nan m ≡ true
    go true t b n = n
    go false t true n = n
    go false t false n = absurd (false≢true (sym t ∙ n))

-- the maximum, bounded again, where it is a number or the minimum is none
high_stays : (m high : Float) (n : Bool) → is_nan high ≡ n → (n ≡ true → is_nan m ≡ true) → min_num (max_num high m) high ≡ high
unfolding max_num min_num
high_stays m high true n f = rw (n, f refl) refl
high_stays m high false n f = go (lt high m) refl
  where
    go : (b : Bool) → lt high m ≡ b → min_num (cond (is_nan high) m (cond b m high)) high ≡ high
    go true h = rw n (rw h (last (is_nan m)))
      where
        last : (t : Bool) → cond t high high ≡ high
        last true = refl
        last false = refl
    go false h = rw n (min_self high)

min_nan : (x m : Float) → is_nan x ≡ true → min_num x m ≡ m
unfolding min_num
min_nan x m n = rw n refl

min_above : (x m : Float) → is_nan x ≡ false → lt m x ≡ true → min_num x m ≡ m
unfolding min_num
min_above x m n h = rw (n, h) refl

both_twice : (v low high : Float) → min_num (max_num (min_num (max_num v low) high) low) high ≡ min_num (max_num v low) high
both_twice v low high = go (is_nan (max_num v low)) refl (lt high (max_num v low)) refl
  where
    from : (y : Float) → min_num (max_num v low) high ≡ y → min_num (max_num y low) high ≡ y → min_num (max_num (min_num (max_num v low) high) low) high ≡ min_num (max_num v low) high
    from y e f = ap (λ (z : Float). min_num (max_num z low) high) e ∙ f ∙ sym e

    go : (t : Bool) → is_nan (max_num v low) ≡ t → (b : Bool) → lt high (max_num v low) ≡ b → min_num (max_num (min_num (max_num v low) high) low) high ≡ min_num (max_num v low) high
    go true t b h = from high (min_nan (max_num v low) high t) (high_stays low high (is_nan high) refl (λ _. max_nan v low t))
    go false t true h = from high (min_above (max_num v low) high t h) (high_stays low high (is_nan high) refl (λ n. absurd (false≢true (sym (lt_left high (max_num v low) h) ∙ n))))
    go false t false h = from (max_num v low) (min_keeps (max_num v low) high t h) (ap (λ (y : Float). min_num y high) (max_twice v low) ∙ min_keeps (max_num v low) high t h)

limits_twice : (low high : Option Float) (v : Float) → at_most high (at_least low (at_most high (at_least low v))) ≡ at_most high (at_least low v)
limits_twice None None v = refl
limits_twice None (Some h) v = min_twice v h
limits_twice (Some m) None v = max_twice v m
limits_twice (Some m) (Some h) v = both_twice v m h

pub bounded_twice : (l : Limits) (v : Float) → bounded l (bounded l v) ≡ bounded l v
bounded_twice l v = limits_twice l.min_value l.max_value v

-- so hard changes nothing where nothing was stepped
pub hard_bounded : (l : Limits) (v : Float) → cond l.hard (bounded l (bounded l v)) (bounded l v) ≡ bounded l v
hard_bounded l v = go l.hard
  where
    go : (t : Bool) → cond t (bounded l (bounded l v)) (bounded l v) ≡ bounded l v
    go true = bounded_twice l v
    go false = refl
