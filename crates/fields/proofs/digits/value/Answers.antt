use mathlib.Core.Path.{refl}
use native.Mathlib.Omega.{arith}
use Rattle.fields.proofs.ReadDigits.{entry}
use Rattle.fields.proofs.digits.value.Goals as goal

pub returns : goal.returns
returns c = entry _ refl c.args.b (omega arith)
