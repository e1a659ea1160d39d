-- How many decimal digits a number has. Assumes nothing.
use Prim.Native.Nat.{ℕ, zero, suc, ◌+◌, ◌*◌, ◌^◌, ◌/◌, ◌≤◌, ◌<◌}
use mathlib.Core.Path.{◌≡◌, refl, sym, ap, ◌∙◌}
use mathlib.Core.Bool.{Bool, true, false, cond}
use native.Mathlib.Nat.{pow-suc, pow-zero, mul_comm, div-lt_iff_lt-mul, le-div_iff_mul-le, pow-le-pow_right}
use native.Mathlib.Numerals.{add-one}
use native.Mathlib.Omega.{arith}
use borrow.Author.Tests.{lt-ltb, le-ltb}
use lib.Dec.{ltb}
use Rattle.fields.specs.Text.{places_of}

pub ten : 0 < 10
ten = omega arith

pub places_le : (k v : ℕ) → places_of k v ≤ k
unfolding places_of
places_le zero v = omega arith
places_le (suc k) v = go (ltb v 10) (places_le k (v / 10))
  where
    go : (t : Bool) → places_of k (v / 10) ≤ k → cond t 1 (suc (places_of k (v / 10))) ≤ suc k
    go true h = omega arith
    go false h = omega arith

pub places_is : (most j v : ℕ) → 10 ^ j ≤ v → v < 10 ^ suc j → suc j ≤ most → places_of most v ≡ suc j
unfolding places_of
places_is zero j v low high h = absurd (omega arith)
places_is (suc k) zero v low high h = rw (lt-ltb v 10 (omega (arith, pow-suc 10 0, pow-zero 10)))
places_is (suc k) (suc j) v low high h =
    let m : 10 ^ j * 10 ≤ v = rw pow-suc at low in
    let o : 1 ≤ 10 ^ j = omega (arith, pow-le-pow_right {n = 10} ten {i = 0} {j = j} (omega arith), pow-zero 10) in
    let s : v < 10 ^ suc j * 10 = rw (pow-suc 10 (suc j)) at high in
    rw (le-ltb v 10 (omega arith)) (ap suc (places_is k j (v / 10) ((le-div_iff_mul-le ten).1 m) ((div-lt_iff_lt-mul ten).1 s) (omega arith)))

-- by the logarithm of base 10, and of 0
pub places_log : (v k : ℕ) → 10 ^ k ≤ v → v < 10 * 10 ^ k → k < 10 → k + 1 ≡ places_of 10 v
places_log v k low high h = sym (places_is 10 k v low (rw (pow-suc 10 k, mul_comm (10 ^ k) 10) high) h ∙ sym (add-one k))

pub places_zero : 1 ≡ places_of 10 0
unfolding places_of
places_zero = refl
