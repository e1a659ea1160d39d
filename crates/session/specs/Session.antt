-- 01, "The session": its step memory, opening, its validity, and what an accepted edit and a step leave. `Calls` has the calls, with the order of their refusals.
use Rattle.std.specs.Prelude.{ℕ, ◌+◌, ◌-◌, ◌*◌, ◌/◌, min, Bool, cond, ◌&&◌, List, ◌++◌, length, take, drop, ltb, leb, eqb, None, Option, Result, Some}
use Rattle.points.specs.Refusal.{Said, refuses, gives, said}
use Rattle.points.specs.declared.refusal.Refusal.{Refusal}
use Rattle.envelope.specs.Envelope.{new, valid_envelope}
use Rattle.envelope.specs.declared.AutomationEnvelope.{AutomationEnvelope}
use Rattle.equal.specs.Equal.{bit_equal}
use Rattle.state.specs.State.{state_words, pack, unpacked}
use Rattle.session.specs.declared.Session.{Session}

-- ---- the step memory

-- "D is the u64 length lent at opening, divided by 1,028, cut."
abbrev pub states_in : ℕ → ℕ
states_in n = n / state_words

-- a session's D
abbrev pub depth : Session → ℕ
depth s = states_in s.length

-- the words of slot k: edit number k of the list that counts, from 0, has slot k mod D
unfoldable pub state_at : List ℕ → ℕ → List ℕ
state_at m k = take state_words (drop (k * state_words) m)

-- the memory with w, the words of a state, in slot k; all other words stay
unfoldable pub stored : ℕ → List ℕ → List ℕ → List ℕ
stored k w m = take (k * state_words) m ++ (w ++ drop (k * state_words + state_words) m)

-- the slot after one, of d: after the last comes the first
unfoldable pub slot_after : ℕ → ℕ → ℕ
slot_after d at = cond (ltb (at + 1) d) (at + 1) 0

-- the slot before one, of d: before the first comes the last
unfoldable pub slot_before : ℕ → ℕ → ℕ
slot_before d at = cond (eqb at 0) (d - 1) (at - 1)

-- ---- the session

-- "A new one: empty list, mark 0, kept 0", for any envelope to start from and the words lent
abbrev pub opened : AutomationEnvelope → ℕ → Session
opened start words = record { envelope = start; length = words; at = 0; kept = 0; ahead = 0 }

-- opening: it starts from "the empty one, `new` of the target given at opening"
unfoldable pub open_session : ℕ → List ℕ → Session
open_session target m = opened (new target) (length m)

-- "any place of a state that it holds is below D (0 where D is 0)"
abbrev pub place_below : ℕ → ℕ → Bool
place_below at d = cond (eqb d 0) (eqb at 0) (ltb at d)

-- all of a session's validity but its envelope's: "kept plus the entries after the mark is at most D", and the place
unfoldable pub in_order : Session → Bool
in_order s = leb (s.kept + s.ahead) (depth s) && place_below s.at (depth s)

-- "A session is valid if its envelope is, .."
abbrev pub valid_session : Session → Bool
valid_session s = valid_envelope s.envelope && in_order s

-- ---- a call's two ends

-- what a call says, and the session and the memory that it leaves
pub record Called : Type 0 where
  pub said : Said (Unit {0})
  pub session : Session
  pub memory : List ℕ

-- an answer in these terms, with the session and the memory at the call's end
abbrev pub called : Result (Unit {0}) Refusal → Session → List ℕ → Called
called a s m = record { said = said a; session = s; memory = m }

-- "a refused call returns the session it got", which it leaves as it was; it writes no word
abbrev pub declined : ℕ → Session → List ℕ → Called
declined n s m = record { said = refuses n; session = s; memory = m }

-- an accepted call gives nothing but the session and the memory
abbrev pub accepted : Session → List ℕ → Called
accepted s m = record { said = gives tt; session = s; memory = m }

-- ---- an edit

-- the session with other numbers and another envelope, over the same memory
abbrev pub moved_to : Session → AutomationEnvelope → ℕ → ℕ → ℕ → Session
moved_to s e at kept ahead = record { envelope = e; length = s.length; at = at; kept = kept; ahead = ahead }

-- an accepted edit that altered something: "entries after the mark go, the edit joins, mark + 1, kept + 1 but at most D." The envelope before it goes into its
-- slot, if there is one.
abbrev pub counted : Session → List ℕ → AutomationEnvelope → Called
counted s m e =
    accepted (moved_to s e (slot_after (depth s) s.at) (min (s.kept + 1) (depth s)) 0)
    (cond (eqb (depth s) 0) m (stored s.at (pack s.envelope) m))

-- an edit's own refusals come last. F-2: "An accepted edit whose envelope is bit-equal to the one before it, settings and count included, no longer joins the list.
-- It also leaves the steps ahead standing.", "mark and kept staying too": the session and the memory are as they were.
abbrev pub settled : Session → List ℕ → Said (Unit {0}) → AutomationEnvelope → Called
settled s m (refuses n) e = declined n s m
settled s m (gives x) e = cond (bit_equal s.envelope e) (accepted s m) (counted s m e)

-- ---- the steps

-- over slot k the envelope and the state there change places; 12, "stored state doesn't pack a valid envelope"
abbrev pub exchanged : Session → List ℕ → ℕ → (AutomationEnvelope → Session) → Option AutomationEnvelope → Called
exchanged s m k to None = declined 12 s m
exchanged s m k to (Some e) = accepted (to e) (stored k (pack s.envelope) m)

-- a step over slot k that leaves these numbers
abbrev pub stepped_over : Session → List ℕ → ℕ → ℕ → ℕ → ℕ → Called
stepped_over s m k at kept ahead = exchanged s m k (λ e. moved_to s e at kept ahead) (unpacked (state_at m k))
