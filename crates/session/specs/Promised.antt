-- What is promised beyond the functions' contracts: statements alone, each proved by the law that its comment names.
use Rattle.std.specs.Prelude.{ℕ, ◌≡◌, List, Result}
use Rattle.points.specs.Refusal.{refuses, said}
use Rattle.points.specs.declared.refusal.Refusal.{Refusal}
use Rattle.session.specs.Calls.{Call, Obeys}
use Rattle.session.specs.declared.Session.{Session}

-- "A refusal returns its number .. and changes nothing": "a refused call returns the session it got", and leaves the memory (`refused_call`, proofs/Refusals)
abbrev pub RefusedCallChangesNothing : Type 0
RefusedCallChangesNothing =
    (s : Session) (m : List ℕ) (c : Call) (a : Result (Unit {0}) Refusal) (s' : Session) (m' : List ℕ) (n : ℕ) → Obeys s m c a s' m' → said a ≡ refuses n
    → (s' ≡ s) × (m' ≡ m)
