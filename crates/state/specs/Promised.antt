-- What is promised beyond the functions' contracts: statements alone, each proved by the law that its comment names.
use Rattle.std.specs.Prelude.{◌≡◌, true}
use Rattle.envelope.specs.Typed.{typed}
use Rattle.envelope.specs.declared.AutomationEnvelope.{AutomationEnvelope}
use Rattle.state.specs.State.{pack, state_of}

-- "packed one-to-one": the words say the envelope (`state_of_pack`, proofs/StateLaws), so the same words are the same envelope's (`pack_one`, there)
abbrev pub ReadsBack : Type 0
ReadsBack = (e : AutomationEnvelope) → typed e ≡ true → state_of (pack e) ≡ e

-- the numbers are in range of their types, as every program's are
abbrev pub OneToOne : Type 0
OneToOne = (e f : AutomationEnvelope) → typed e ≡ true → typed f ≡ true → pack e ≡ pack f → e ≡ f
