use Prim.Native.Nat.{◌≤◌}
use mathlib.Core.Path.{◌≡◌}
use lib.ListN.{length, take}
use Rattle.points.specs.Points.{list_of, holding}
use Rattle.insert.specs.Insert.{insert_all}
use Rattle.insert.proofs.insert_all.Given as goal

abbrev pub invariant-loop-p : goal.invariant-loop-p
invariant-loop-p l =
    (l.made ≡ holding (insert_all (list_of l.points) (take l.p-index l.new))) × (length (insert_all (list_of l.points) (take l.p-index l.new)) ≤ 256)
