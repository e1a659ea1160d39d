-- What the library's calls on a slice tell, in the words of specs/. Assumes nothing.
use mathlib.Core.Path.{◌≡◌, refl}
use mathlib.Core.List.{List, [], ◌∷◌}
use native.Mathlib.Omega.{arith}
use Prim.Native.Nat.{suc, ◌-◌}
use lib.Ieee.{inf, binary32, of_bits}
use mathlib.Core.Bool.{true, false}
use lib.ListN.{length}
use Rattle.std.specs.List.{slice_get}
use Rattle.std.specs.Option.{option_map_or}
use Rattle.numbers.specs.Bounds.{zero64}
use Rattle.points.specs.Point.{time_of}
use Rattle.points.specs.declared.AutomationPoint.{AutomationPoint}
use Rattle.pointwise.specs.Each.{last_time}

-- `f32::INFINITY`, and the negative one
pub infinity_is : of_bits binary32 0x7F80_0000 ≡ inf false
unfolding of_bits
infinity_is = refl

pub neg_infinity_is : of_bits binary32 0xFF80_0000 ≡ inf true
unfolding of_bits
neg_infinity_is = refl

-- the last time is that of the last element
pub last_time_is : (l : List AutomationPoint) → last_time l ≡ option_map_or time_of (slice_get l (length l - 1)) zero64
last_time_is [] = refl
last_time_is (p ∷ []) = refl
last_time_is (p ∷ (q ∷ l)) =
    let e : suc (suc (length l)) - 1 ≡ suc (length l) = omega arith in
    let d : suc (length l) - 1 ≡ length l = omega arith in
    rw e (rw d at (last_time_is (q ∷ l)))
