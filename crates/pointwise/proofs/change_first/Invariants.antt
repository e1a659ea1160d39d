use Rattle.std.proofs.Common.{◌≡◌, ◌++◌, map, take, drop}
use Rattle.pointwise.specs.Each.{changed}
use Rattle.pointwise.proofs.change_first.Given as goal

-- the places before are changed, the others as they were
abbrev pub invariant-loop-p : goal.invariant-loop-p
invariant-loop-p l = l.p-items ≡ map (changed l.change) (take l.p-index l.initial.p-items) ++ drop l.p-index l.initial.p-items
