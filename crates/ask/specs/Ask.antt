-- 02, F-3, "Merge, asked first": what ask says, and its ticket.
use Rattle.std.specs.Prelude.{ℕ, Float, Err, Ok, Result}
use Rattle.points.specs.Refusal.{Said, refuses, gives, number, said}
use Rattle.envelope.specs.Edit.{EditTold, join_of}
use Rattle.envelope.specs.declared.AutomationEnvelope.{AutomationEnvelope}
use Rattle.envelope.specs.declared.edit.Join.TheVariants.{Merge}
use Rattle.ask.specs.declared.Ticket.{Ticket}
use Rattle.ask.specs.declared.Asked.{Asked}
use Rattle.points.specs.declared.refusal.Refusal.{Refusal}

-- ---- an answer in 01's terms

-- what ask says, and the ticket
pub record AskTold : Type 0 where
  pub said : Said ℕ
  pub ticket : Ticket

-- an `Asked` in these terms
abbrev pub told_ask : Asked → AskTold
told_ask a = record { said = said a.answer; ticket = a.ticket }

-- ---- ask

-- a count where it is given, else the refusal
abbrev pub count_if : Said (Unit {0}) → ℕ → Said ℕ
count_if (refuses n) k = refuses n
count_if (gives u) k = gives k

-- of a merge: "how many points a merge will give", "or the refusal that the merge would give"
abbrev pub count_said : EditTold → Said ℕ
count_said merged = count_if merged.said merged.envelope.points.count

-- "Ask, given both envelopes and the offset, returns that count, or the refusal that the merge would give, and in either case a ticket holding all three"
unfoldable pub ask_of : AutomationEnvelope → AutomationEnvelope → Float → AskTold
ask_of first second offset =
    record { said = count_said (join_of (Merge offset) first second); ticket = record { first = first; second = second; offset = offset } }
