-- `numbers::order::total_cmp` meets its contract: the order is that of the keys.
-- Assumes nothing.
use Rattle.std.proofs.Common.{◌≡◌, ℕ, Bool, true, false, cond, T, ltb, refl, ◌∙◌, Less, Equal, Greater, nat_cmp, arith, ltb-false, ltb-true, eq-eqb, ne_eqb}
use lib.Ieee.{Float, binary64, fits}
use Rattle.numbers.specs.Order.{total_of, order_key}
use Rattle.numbers.proofs.OrderLaws.{before_key}
use Rattle.numbers.proofs.Tests.{yes}
use Rattle.numbers.proofs.order.total_cmp.Goals as goal

by_tests : (a b : ℕ) → nat_cmp a b ≡ cond (ltb a b) Less (cond (ltb b a) Greater Equal)
by_tests a b = go (ltb a b) (ltb b a) refl refl
  where
    go : (s t : Bool) → ltb a b ≡ s → ltb b a ≡ t → nat_cmp a b ≡ cond s Less (cond t Greater Equal)
    go true t p q = rw p
    go false true p q = rw (p, ne_eqb a b (λ e. omega (arith, ltb-true b a q)))
    go false false p q = rw (p, eq-eqb a b (omega (arith, ltb-false a b p, ltb-false b a q)))

by_keys : (x y : Float) → T (fits binary64 x) → T (fits binary64 y) → nat_cmp (order_key x) (order_key y) ≡ total_of x y
unfolding total_of
by_keys x y F G = rw (before_key x y F G, before_key y x G F) (by_tests (order_key x) (order_key y))

pub returns : goal.returns
returns c = c.cmp.ensures ∙ rw (c.order_key.ensures, c.order_key-2.ensures) (by_keys c.args.x c.args.y (yes c.well_formed.0.1) (yes c.well_formed.1.0.1))
