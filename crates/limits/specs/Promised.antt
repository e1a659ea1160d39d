-- What is promised beyond the functions' contracts: statements alone, each proved by the law that its comment names.
use Rattle.std.specs.Prelude.{◌≡◌, true, Float, Some}
use Rattle.std.specs.Float.Ieee.{le}
use Rattle.limits.specs.Limits.{constrained, lies_between}
use Rattle.limits.specs.declared.Limits.{Limits}

-- 02, F-1: "With hard on", "With both set, minimum at most maximum"
pub record Holding (l : Limits) (low high : Float) : Type 0 where
  pub hard : l.hard ≡ true
  pub minimum : l.min_value ≡ Some low
  pub maximum : l.max_value ≡ Some high
  pub order : le low high ≡ true

-- then every value "lies between them, a NaN before the constraints included" (`hard_holds`, proofs/HardLaws)
abbrev pub HardHolds : Type 0
HardHolds = (l : Limits) (low high : Float) → Holding l low high → (v : Float) → lies_between low high (constrained l v) ≡ true
