use native.Mathlib.Omega.{arith}
use Rattle.fields.proofs.Stores.{number_put, no_number}
use Rattle.fields.proofs.write.fit_number.Goals as goal

pub returns-in-Some : goal.returns-in-Some
returns-in-Some c = number_put _ _ _ _ _ _ _ _ c.in-Some.ensures.1 c.if-last-out.true c.put_digits.ensures

pub returns-in_default : goal.returns-in_default
returns-in_default c = no_number _ _ _ _ _ _ (omega (arith, c.in-Some.ensures.1))

pub returns-in_default-2 : goal.returns-in_default-2
returns-in_default-2 c = no_number _ _ _ _ _ _ (omega (arith, c.in_default.ensures))
