-- Rust's operators on `f32` and the numbers that 001 writes, under short names. Each operation rounds its exact result once, to binary32.
use Rattle.std.specs.Prelude.{ℕ, Bool, Float}
use Rattle.std.specs.Float.Ieee as Ieee
use Rattle.std.specs.Float.{binary32}
use Rattle.std.specs.Float.Ieee.{of_bits}

infix 50 ◌<ᶠ◌
infixl 65 ◌+ᶠ◌ ◌-ᶠ◌
infixl 70 ◌*ᶠ◌ ◌/ᶠ◌
-- f32 addition
abbrev pub ◌+ᶠ◌ : Float → Float → Float
x +ᶠ y = Ieee.add binary32 x y

-- f32 subtraction
abbrev pub ◌-ᶠ◌ : Float → Float → Float
x -ᶠ y = Ieee.sub binary32 x y

-- f32 multiplication
abbrev pub ◌*ᶠ◌ : Float → Float → Float
x *ᶠ y = Ieee.mul binary32 x y

-- f32 division
abbrev pub ◌/ᶠ◌ : Float → Float → Float
x /ᶠ y = Ieee.div binary32 x y

-- false where a NaN stands
abbrev pub ◌<ᶠ◌ : Float → Float → Bool
x <ᶠ y = Ieee.lt x y

-- a number by its bits
abbrev pub f32 : ℕ → Float
f32 bits = of_bits binary32 bits

-- 0.0
abbrev pub f0 : Float
f0 = f32 0x0000_0000

-- 1.0
abbrev pub f1 : Float
f1 = f32 0x3F80_0000

-- 2.0
abbrev pub f2 : Float
f2 = f32 0x4000_0000

-- 3.0
abbrev pub f3 : Float
f3 = f32 0x4040_0000

-- 4.0
abbrev pub f4 : Float
f4 = f32 0x4080_0000

-- 8.0
abbrev pub f8 : Float
f8 = f32 0x4100_0000

-- 16.0
abbrev pub f16 : Float
f16 = f32 0x4180_0000

-- 0.5
abbrev pub f0·5 : Float
f0·5 = f32 0x3F00_0000

-- 0.75
abbrev pub f0·75 : Float
f0·75 = f32 0x3F40_0000

-- 0.9375
abbrev pub f0·9375 : Float
f0·9375 = f32 0x3F70_0000

-- 0.984375
abbrev pub f0·984375 : Float
f0·984375 = f32 0x3F7C_0000

-- 1.5
abbrev pub f1·5 : Float
f1·5 = f32 0x3FC0_0000

-- 1.70158, to the nearest
abbrev pub f1·70158 : Float
f1·70158 = f32 0x3FD9_CD60

-- 2.25
abbrev pub f2·25 : Float
f2·25 = f32 0x4010_0000

-- 2.5
abbrev pub f2·5 : Float
f2·5 = f32 0x4020_0000

-- 2.625
abbrev pub f2·625 : Float
f2·625 = f32 0x4028_0000

-- 2.75
abbrev pub f2·75 : Float
f2·75 = f32 0x4030_0000

-- 7.5625
abbrev pub f7·5625 : Float
f7·5625 = f32 0x40F2_0000
