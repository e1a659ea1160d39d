-- What a lookup takes of an envelope.
use Rattle.std.specs.Prelude.{Bool}
use Rattle.points.specs.declared.Points.{Points}
use Rattle.limits.specs.declared.Limits.{Limits}

-- its points, the switch, and its limits
pub record Heard : Type 0 where
  pub points : Points
  pub enabled : Bool
  pub limits : Limits
