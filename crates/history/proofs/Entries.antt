-- The laws of an edit, alone or with another envelope, that the history rests on. Assumes nothing.
use mathlib.Core.Path.{◌≡◌}
use mathlib.Core.Bool.{true}
use Rattle.numbers.proofs.Tests.{and_right}
use Rattle.points.specs.Refusal.{gives}
use Rattle.envelope.specs.Envelope.{valid_envelope}
use Rattle.envelope.proofs.EditLaws.{edit_valid}
use Rattle.envelope.specs.Typed.{typed}
use Rattle.envelope.proofs.TypedLaws.{edit_typed}
use Rattle.envelope.proofs.JoinLaws.{join_valid, join_typed}
use Rattle.envelope.specs.declared.AutomationEnvelope.{AutomationEnvelope}
use Rattle.envelope.specs.declared.edit.Join.TheVariants.{Merge}
use Rattle.session.specs.Calls.{Entry, alone, joined, committed, made_by}
use Rattle.history.specs.After.{typed_entry}

-- an accepted edit gives a valid envelope
pub entry_valid : (x : Entry) (e : AutomationEnvelope) → (made_by x e).said ≡ gives tt → valid_envelope (made_by x e).envelope ≡ true
entry_valid (alone d) e h = edit_valid d e h
entry_valid (joined j other) e h = join_valid j e other h
entry_valid (committed t) e h = join_valid (Merge t.offset) e t.second h

-- an edit leaves numbers in range of their types
pub entry_typed : (x : Entry) (e : AutomationEnvelope) → typed e ≡ true → typed_entry x ≡ true → typed (made_by x e).envelope ≡ true
entry_typed (alone d) e t h = edit_typed d e t h
entry_typed (joined j other) e t h = join_typed j e other t h
entry_typed (committed k) e t h = join_typed (Merge k.offset) e k.second t (and_right (typed k.first) (typed k.second) h)
