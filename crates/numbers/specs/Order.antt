-- IEEE 754's totalOrder of `f64`, and the whole number by which it can be sorted. 01: "`total_cmp`: IEEE 754 totalOrder, so −0.0 stands before 0.0."
use Rattle.std.specs.Prelude.{ℕ, ◌+◌, ◌-◌, Bool, true, false, cond, not, ◌&&◌, is_nan, nat_lt, to_bits, Float}
use Rattle.std.specs.Float.{nan, inf, fin, binary64}
use Rattle.std.specs.Float.Ieee.{lt}
use Rattle.std.specs.declared.cmp.Ordering.{Ordering}
use Rattle.std.specs.declared.cmp.Ordering.TheVariants.{Less, Equal, Greater}

-- the sign: true for a negative value, -0 among them
abbrev pub negative : Float → Bool
negative nan = false
negative (inf s) = s
negative (fin s m e) = s

-- x before y: smaller, or as large (neither is smaller) with a sign where y has none.
-- The one NaN of the logic has no sign. It stands where totalOrder puts the positive one: after +infinity.
unfoldable pub before : Float → Float → Bool
before x y = cond (is_nan x) false (cond (is_nan y) true (cond (lt x y) true (not (lt y x) && (negative x && not (negative y)))))

-- before, after or the same: 01's "`total_cmp`"
unfoldable pub total_of : Float → Float → Ordering
unfolding before
total_of x y = cond (before x y) Less (cond (before y x) Greater Equal)

-- The bit pattern, turned so that it grows with the order: above the middle without a sign, and counted down from it with one.
-- proofs/OrderLaws.antt shows that x is before y exactly where its key is smaller, and that no two values share a key.
unfoldable pub order_key : Float → ℕ
order_key x = let b = to_bits binary64 x in cond (nat_lt b 0x8000_0000_0000_0000) (b + 0x8000_0000_0000_0000) (0xFFFF_FFFF_FFFF_FFFF - b)
