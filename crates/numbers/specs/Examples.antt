-- Worked cases, each computed from the definitions: a float is given by its bit pattern. P11 and P14 are 01's proved examples; the others are those of docs/ROUNDING.md.
use Rattle.std.specs.Prelude.{◌≡◌, ℕ, true, pos, refl, Float}
use Rattle.std.specs.Float.{binary32, binary64, round_with}
use Rattle.std.specs.Float.Ieee.{of_int, to_unsigned, of_bits, to_bits, round, mul, is_nan, lt}
use Rattle.numbers.specs.Narrow.{narrow}
use Rattle.numbers.specs.Whole.{round_away}
use Rattle.numbers.specs.Root.{sqrt}
use Rattle.numbers.specs.Order.{before, order_key}
use Rattle.numbers.specs.Bounds.{max_num}

-- an `f32` from its pattern, and back
abbrev f32 : ℕ → Float
f32 = of_bits binary32

abbrev bits : Float → ℕ
bits = to_bits binary32

-- -2.5 gives -3, which is P8's rounding
pub half_away : bits (round_away binary32 (f32 0xC020_0000)) ≡ 0xC040_0000
unfolding round_with of_bits to_bits round
half_away = refl

-- 0.49999997, the last below a half, gives 0.0
pub below_half : bits (round_away binary32 (f32 0x3EFF_FFFF)) ≡ 0
unfolding round_with of_bits to_bits round
below_half = refl

-- -0.3 gives -0.0
pub sign_kept : bits (round_away binary32 (f32 0xBE99_999A)) ≡ 0x8000_0000
unfolding round_with of_bits to_bits round
sign_kept = refl

-- P11: 16,777,219 gives 16,777,220
pub P11 : bits (of_int binary32 (pos 16777219)) ≡ 0x4B80_0002
unfolding of_int to_bits
P11 = refl

-- P14: the square root of 2
pub P14 : bits (sqrt binary32 (f32 0x4000_0000)) ≡ 0x3FB5_04F3
unfolding sqrt of_bits to_bits
P14 = refl

-- the square of 0.1, rounded once
pub square : bits (mul binary32 (f32 0x3DCC_CCCD) (f32 0x3DCC_CCCD)) ≡ 0x3C23_D70B
unfolding mul of_bits to_bits
square = refl

-- a fraction halfway between two `f32`: 0.5 and 2^-25 goes down, to the even one, and 0.5 and 3 times 2^-25 up
pub halfway_down : bits (narrow (of_bits binary64 0x3FE0_0000_1000_0000)) ≡ 0x3F00_0000
unfolding narrow of_bits to_bits
halfway_down = refl

pub halfway_up : bits (narrow (of_bits binary64 0x3FE0_0000_3000_0000)) ≡ 0x3F00_0002
unfolding narrow of_bits to_bits
halfway_up = refl

-- 48000.48, which is 1.00001 s at 48,000, gives 48,000
pub cut : to_unsigned 64 (of_bits binary64 0x40E7_700F_5C28_F5C3) ≡ 48000
unfolding to_unsigned of_bits
cut = refl

-- -0.5 gives 0
pub negative_cut : to_unsigned 64 (of_bits binary64 0xBFE0_0000_0000_0000) ≡ 0
unfolding to_unsigned of_bits
negative_cut = refl

-- 2^64 is too large for a `u64`
pub too_large : to_unsigned 64 (of_bits binary64 0x43F0_0000_0000_0000) ≡ 0xFFFF_FFFF_FFFF_FFFF
unfolding to_unsigned of_bits
too_large = refl

-- -0.0 stands before 0.0
pub minus_first : before (of_bits binary64 0x8000_0000_0000_0000) (of_bits binary64 0) ≡ true
unfolding before is_nan lt of_bits
minus_first = refl

-- the keys of -1.0, -0.0, 0.0 and 1.0
pub key_minus_one : order_key (of_bits binary64 0xBFF0_0000_0000_0000) ≡ 0x400F_FFFF_FFFF_FFFF
unfolding order_key of_bits to_bits
key_minus_one = refl

pub key_minus_zero : order_key (of_bits binary64 0x8000_0000_0000_0000) ≡ 0x7FFF_FFFF_FFFF_FFFF
unfolding order_key of_bits to_bits
key_minus_zero = refl

pub key_zero : order_key (of_bits binary64 0) ≡ 0x8000_0000_0000_0000
unfolding order_key of_bits to_bits
key_zero = refl

pub key_one : order_key (of_bits binary64 0x3FF0_0000_0000_0000) ≡ 0xBFF0_0000_0000_0000
unfolding order_key of_bits to_bits
key_one = refl

-- of 0.0 and -0.0, and of -0.0 and 0.0, the larger is the first
pub first_kept : bits (max_num (f32 0) (f32 0x8000_0000)) ≡ 0
unfolding max_num is_nan lt of_bits to_bits
first_kept = refl

pub minus_kept : bits (max_num (f32 0x8000_0000) (f32 0)) ≡ 0x8000_0000
unfolding max_num is_nan lt of_bits to_bits
minus_kept = refl
