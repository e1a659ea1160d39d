-- `curve::CurveType::ease` meets its contract: a difference fits its format, so that std's root of it is `sqrt`. Assumes nothing.
use lib.Ieee.{binary32}
use lib.Ieee.Fits.{sub-fits}
use Rattle.numbers.proofs.StdRoot.{std_sqrt}
use Rattle.curve.specs.F32.{◌-ᶠ◌, ◌*ᶠ◌, f1}
use Rattle.curve.specs.Curve.{eased}
use Rattle.curve.proofs.CurveType.ease.Goals as goal

pub returns-in-Circular : goal.returns-in-Circular
unfolding eased
returns-in-Circular c =
    let square = c.args.t *ᶠ c.args.t in
    rw (c.in-Circular.is, c.sqrt-in-Circular.ensures.value, std_sqrt binary32 (f1 -ᶠ square) (sub-fits binary32 f1 square))
