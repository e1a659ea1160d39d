-- What is promised of commits beyond the function's contract: statements alone, each proved by the law that its comment names (proofs/CommitLaws).
use Rattle.std.specs.Prelude.{ℕ, ◌≡◌, true, List, length, Result}
use Rattle.points.specs.Refusal.{refuses, gives, said}
use Rattle.points.specs.declared.refusal.Refusal.{Refusal}
use Rattle.envelope.specs.Envelope.{valid_envelope}
use Rattle.envelope.specs.Edit.{join_of}
use Rattle.envelope.specs.Typed.{typed}
use Rattle.envelope.specs.declared.edit.Join.TheVariants.{Merge}
use Rattle.equal.specs.Equal.{bit_equal}
use Rattle.ask.specs.Ask.{ask_of}
use Rattle.ask.specs.declared.Ticket.{Ticket}
use Rattle.session.specs.Session.{valid_session, declined}
use Rattle.session.specs.Calls.{joined, committed, edit, call_of, Obeys}
use Rattle.session.specs.declared.Session.{Session}

-- a ticket that fits: the session and the memory that the same merge as an edit leaves, "one edit of the list, or none where F-2 calls it idle" (`commit_fits`)
abbrev pub CommitIsTheEdit : Type 0
CommitIsTheEdit =
    (t : Ticket) (s : Session) (m : List ℕ) → valid_envelope t.first ≡ true → bit_equal s.envelope t.first ≡ true
    → call_of (edit (committed t)) s m ≡ call_of (edit (joined (Merge t.offset) t.second)) s m

-- numbers in range of their types, as every program's are
pub record TypedParts (t : Ticket) (s : Session) : Type 0 where
  pub envelope : typed s.envelope ≡ true
  pub first : typed t.first ≡ true
  pub second : typed t.second ≡ true

-- "An accepted commit equals `merge` on the ticket's parts" (`commit_merges`)
abbrev pub CommitMerges : Type 0
CommitMerges =
    (t : Ticket) (s : Session) (m : List ℕ) (a : Result (Unit {0}) Refusal) (s' : Session) (m' : List ℕ) → TypedParts t s → Obeys s m (edit (committed t)) a s' m' → said a ≡ gives tt
    → join_of (Merge t.offset) t.first t.second ≡ record { said = gives tt; envelope = s'.envelope }

-- "An editor wants to see how many points a merge will give before agreeing": what was shown is what an accepted commit gives (`shown_committed`)
abbrev pub ShownIsCommitted : Type 0
ShownIsCommitted =
    (t : Ticket) (s : Session) (m : List ℕ) (a : Result (Unit {0}) Refusal) (s' : Session) (m' : List ℕ) → TypedParts t s → Obeys s m (edit (committed t)) a s' m' → said a ≡ gives tt
    → (ask_of t.first t.second t.offset).said ≡ gives s'.envelope.points.count

-- "Where that merge is refused, so is the commit, by the same number": to a valid session that has the ticket's first, and with its memory's length (`refused_ask`)
abbrev pub RefusedAskIsRefused : Type 0
RefusedAskIsRefused =
    (t : Ticket) (s : Session) (m : List ℕ) (n : ℕ) → (ask_of t.first t.second t.offset).said ≡ refuses n
    → valid_session s ≡ true → length m ≡ s.length → s.envelope ≡ t.first → call_of (edit (committed t)) s m ≡ declined n s m
