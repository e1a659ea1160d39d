use mathlib.Core.Path.{ap, ◌∙◌}
use Rattle.std.proofs.Common.{rules}
use Rattle.points.specs.Points.{rising, time_key}
use Rattle.points.proofs.SliceLaws.{rises_by}
use Rattle.points.proofs.Points.times_rise.Goals as goal

pub returns : goal.returns
returns c = rises_by time_key _ _ _ _ c.is_sorted_by.ensures.cases (λ f a r f' k. search rules) ∙ ap rising c.as_slice.ensures
