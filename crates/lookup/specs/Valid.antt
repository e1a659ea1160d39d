-- 01's validity, over an envelope's points and its limits.
use Rattle.std.specs.Prelude.{Bool, ◌&&◌}
use Rattle.points.specs.Points.{valid_points}
use Rattle.points.specs.declared.Points.{Points}
use Rattle.limits.specs.Limits.{finite_limits}
use Rattle.limits.specs.declared.Limits.{Limits}

-- "An envelope is valid if its count is at most 256, all times, values, controls and settings are finite, and times strictly rise by totalOrder, and the places past the count are as above."
abbrev pub valid : Points → Limits → Bool
valid ps l = finite_limits l && valid_points ps
