-- What owning a value tells. Assumes nothing.
use Prim.Native.Nat.{◌≤◌}
use mathlib.Core.Path.{◌≡◌}
use mathlib.Core.Bool.{true}
use mathlib.Core.List.{List}
use native.Mathlib.Omega.{arith}
use lib.ListN.{length}
use mir.Val.{Val}
use denote.Laws.{Is}
use denote.Struct.Declared.{row}
use Rattle.points.specs.Points.{valid_points}
use Rattle.points.proofs.ValidLaws.{valid_count}
use Rattle.points.specs.declared.Points.{Points}
use Rattle.points.specs.contracts.Points.{the_type}

-- there are 256 places
pub places : (ps : Points) (vs : List Val) → Is (row the_type) ps vs → length ps.places ≡ 256
places ps vs g = g.1.1.1.0.1.0.1

-- a valid list's points are among them
pub inside : (ps : Points) (vs : List Val) → Is (row the_type) ps vs → valid_points ps ≡ true → ps.count ≤ length ps.places
inside ps vs g v = omega (arith, places ps vs g, valid_count ps v)
