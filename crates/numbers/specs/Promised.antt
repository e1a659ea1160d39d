-- What is promised of the numbers beyond their functions' contracts: statements alone, each proved where its comment says.
use Rattle.std.specs.Prelude.{◌≡◌, ◌≤◌, true, false, T, Float}
use Rattle.std.specs.Float.{binary64}
use Rattle.std.specs.Float.Ieee.{le, fits}
use Rattle.numbers.specs.Whole.{nearest_multiple}
use Rattle.numbers.specs.Bounds.{zero64, finite}
use Rattle.numbers.specs.Order.{order_key}

-- Quantizing lets no time pass another, for all finite times and every finite grid above 0 (`quantized_keeps_order`, proofs/Quantized).
-- The order is totalOrder, by its keys; so it holds too where a result is a zero with a sign, or an infinity.
abbrev pub KeepsOrder : Type 0
KeepsOrder =
    (grid a b : Float) → finite grid ≡ true → le grid zero64 ≡ false → T (fits binary64 a) → T (fits binary64 b) → finite a ≡ true → finite b ≡ true
    → order_key a ≤ order_key b → order_key (nearest_multiple binary64 grid a) ≤ order_key (nearest_multiple binary64 grid b)
