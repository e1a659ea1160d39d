use mathlib.Core.Path.{ap, ◌∙◌}
use mathlib.Core.List.{List}
use Rattle.points.specs.Points.{holding, fitting}
use Rattle.points.specs.declared.AutomationPoint.{AutomationPoint}
use Rattle.points.proofs.Fits.{times_fit}
use Rattle.shape.specs.Neighbours.{without_repeats}
use Rattle.shape.proofs.Quantized.{quantized_made}
use Rattle.shape.proofs.on_grid.Goals as goal

pub returns : goal.returns
returns c =
    let moved = c.map_points-moved in
    quantized_made c.args.points moved.result c.without_repeats.result c.args.grid (times_fit c.args.points _ c.well_formed.0) c.if-grid.false moved.ensures
    (c.without_repeats.ensures ∙ ap (λ (l : List AutomationPoint). holding (fitting (without_repeats l))) c.as_slice.ensures)
