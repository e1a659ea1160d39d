use Rattle.points.proofs.AutomationPoint.is_finite.Goals as goal

pub returns : goal.returns
returns c = cc
