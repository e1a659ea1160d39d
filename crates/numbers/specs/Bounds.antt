-- The larger and the smaller of two numbers, a number held between two, and which values are finite.
-- 01: "max and min: a NaN gives the other; equal zeros keep the first." IEEE 754-2008's maxNum and minNum, with 01's choice of the zero.
-- 01's "finite": neither a NaN nor an infinity; std's word for `x.is_finite()`
unfoldable pub use Rattle.std.specs.Float.{float_is_finite as finite}
use Rattle.std.specs.Prelude.{cond, from_bits, is_nan, Float}
use Rattle.std.specs.Float.{binary64, float_clamp}
use Rattle.std.specs.Float.Ieee.{lt}

-- the larger: b where a is a NaN or is smaller, and else a. So a is kept where b is a NaN, which no number is smaller than, and where the two are equal, -0.0 and 0.0 among them.
unfoldable pub max_num : Float → Float → Float
max_num a b = cond (is_nan a) b (cond (lt a b) b a)

-- the smaller, by the same rules
unfoldable pub min_num : Float → Float → Float
min_num a b = cond (is_nan a) b (cond (lt b a) b a)

-- std's word for `x.clamp(low, high)`: the bound that x is beyond, else x itself; so a NaN stays, and a zero that isn't beyond a bound keeps its sign
abbrev pub clamped_to : Float → Float → Float → Float
clamped_to low high x = float_clamp x low high

-- 0.0, an f64
abbrev pub zero64 : Float
zero64 = from_bits binary64 0
