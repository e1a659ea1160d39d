-- `lookup::place::keys` meets its contract: the keys of the first i points are written (`KeysFilled`).
use Rattle.lookup.proofs.KeyLaws.{KeysFilled}
use Rattle.lookup.proofs.place.keys.Given as goal

abbrev pub invariant-loop-i : goal.invariant-loop-i
invariant-loop-i g l = KeysFilled g.A.Axis.key_of l.points l.i l.keys
