-- A number read digit by digit stays below the power of 16 for its digits. Assumes nothing.
use mathlib.Core.Path.{◌≡◌, ap, ◌∙◌}
use Prim.Native.Nat.{ℕ, suc, ◌+◌, ◌*◌, ◌^◌, ◌≤◌, ◌<◌}
use native.Mathlib.Nat.{pow-suc, mul-le-mul_right, pow-le-pow_right}
use native.Mathlib.Numerals.{add-one}
use native.Mathlib.Omega.{arith}

pub more : (i v d : ℕ) → v < 16 ^ i → d < 16 → v * 16 + d < 16 ^ (i + 1)
more i v d h k =
    let e : 16 ^ (i + 1) ≡ 16 ^ i * 16 = ap (λ (j : ℕ). 16 ^ j) (add-one i) ∙ pow-suc 16 i in
    let m : suc v * 16 ≤ 16 ^ i * 16 = mul-le-mul_right 16 h in
    omega arith

pub more_fits : (i n v d : ℕ) → v < 16 ^ i → d < 16 → i < n → n ≤ 16 → v * 16 + d < 2 ^ 64
more_fits i n v d h k l m =
    let p : 16 ^ (i + 1) ≤ 16 ^ 16 = pow-le-pow_right {n = 16} (omega arith) {i = i + 1} {j = 16} (omega arith) in
    omega (arith, more i v d h k)
