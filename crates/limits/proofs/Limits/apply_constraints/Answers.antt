-- `limits::Limits::apply_constraints` meets its contract: by definition of `constrained`, bounds, a step above 0, and with hard on the bounds again.
-- A step that is not above 0 changes nothing, and the bounds again don't either (`hard_bounded`).
use mathlib.Core.Path.{sym, ◌∙◌}
use lib.Ieee.{of_bits}
use Rattle.limits.specs.Limits.{constrained}
use Rattle.limits.proofs.TwiceLaws.{hard_bounded}
use Rattle.limits.proofs.Limits.apply_constraints.Goals as goal

pub returns-in_default : goal.returns-in_default
unfolding constrained of_bits
returns-in_default c = rw (c.in-Some.is, c.if-s.false) (c.bound-bounded.ensures ∙ sym (hard_bounded c.args.self c.args.v))
