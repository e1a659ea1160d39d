-- What is promised beyond the function's contract: statements alone, each proved by the law that its comment names.
use Rattle.std.specs.Prelude.{◌≡◌, true}
use Rattle.envelope.specs.Envelope.{valid_envelope}
use Rattle.envelope.specs.Typed.{typed}
use Rattle.envelope.specs.declared.AutomationEnvelope.{AutomationEnvelope}
use Rattle.equal.specs.Equal.{bit_equal}

-- no bit is left out: valid envelopes that are bit-equal are the same (`bit_equal_same`, proofs/EqualLaws). Their numbers are in range of their types, as every program's are.
abbrev pub BitEqualIsSame : Type 0
BitEqualIsSame =
    (e f : AutomationEnvelope) → typed e ≡ true → typed f ≡ true → valid_envelope e ≡ true → valid_envelope f ≡ true → bit_equal e f ≡ true → e ≡ f

-- and an envelope is bit-equal to itself (`bit_equal_self`, there), so those that are not differ
abbrev pub BitEqualToItself : Type 0
BitEqualToItself = (e : AutomationEnvelope) → bit_equal e e ≡ true
