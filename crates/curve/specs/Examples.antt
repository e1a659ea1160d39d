-- 01's "Proved examples", the part that is the curves': P3 to P6 from value 0 to value 1, at the fraction of the 4 seconds. The last two are 01's words on NaN.
use Rattle.std.specs.Prelude.{◌≡◌, refl, Float}
use Rattle.std.specs.Float.{nan}
use Rattle.std.specs.Float.Ieee.{of_bits, neg, add, sub, mul, div, lt}
use Rattle.numbers.specs.Root.{sqrt}
use Rattle.curve.specs.F32.{f32, f0, f1, f0·5}
use Rattle.curve.specs.Curve.{cubic_bezier, in_out, stepped, eased, interpolated}
use Rattle.curve.specs.declared.CurveType.TheVariants.{Linear, Logarithmic, Stepped, Bezier, QuadIn, CubicInOut}

-- 0.25
abbrev quarter : Float
quarter = f32 0x3E80_0000

pub p3 : interpolated QuadIn f0 f1 f0·5 ≡ quarter
unfolding interpolated eased of_bits add sub mul lt
p3 = refl

pub p4 : interpolated Logarithmic f0 f1 quarter ≡ f0·5
unfolding interpolated eased sqrt of_bits add sub mul lt
p4 = refl

-- 0.0625
pub p5 : interpolated CubicInOut f0 f1 quarter ≡ f32 0x3D80_0000
unfolding interpolated eased in_out of_bits neg add sub mul div lt
p5 = refl

-- 0.875
pub p6 : interpolated (Bezier f1 f1) f0 f1 f0·5 ≡ f32 0x3F60_0000
unfolding interpolated eased cubic_bezier of_bits add sub mul lt
p6 = refl

pub nan_stays : interpolated Linear f0 f1 nan ≡ nan
unfolding interpolated eased of_bits add sub mul lt
nan_stays = refl

pub nan_steps : interpolated Stepped f0 f1 nan ≡ f1
unfolding interpolated eased stepped of_bits add sub mul lt
nan_steps = refl
