use mathlib.Core.Path.{◌≡◌}
use mathlib.Core.List.{◌++◌}
use lib.ListN.{length, drop}
use Rattle.fields.specs.Text.{digits_of}
use Rattle.fields.proofs.write.put_digits.Given as goal

-- the digits that are left, before those that are put
abbrev pub invariant-loop-k : goal.invariant-loop-k
invariant-loop-k l = digits_of l.base l.k l.left ++ drop l.k l.out ≡ digits_of l.base (length l.initial.out) l.v
