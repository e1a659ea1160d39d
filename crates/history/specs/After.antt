-- What demand 3 says of a session and its memory after a list of calls.
use Rattle.std.specs.Prelude.{ℕ, ◌+◌, ◌-◌, ◌/◌, ◌%◌, ◌≤◌, ◌<◌, ◌≡◌, Bool, true, false, cond, ◌&&◌, List, eqb, length, get_or, replicate, Float}
use Rattle.numbers.specs.Bounds.{finite}
use Rattle.points.specs.Refusal.{Said, gives}
use Rattle.render.specs.Render.{declined, run_into, sample_count}
use Rattle.render.specs.Pieces.{total}
use Rattle.envelope.specs.Calls.{samples_of}
use Rattle.envelope.specs.Typed.{typed, typed_edit}
use Rattle.envelope.specs.declared.AutomationEnvelope.{AutomationEnvelope}
use Rattle.equal.specs.Equal.{bit_equal}
use Rattle.state.specs.State.{state_words, pack}
use Rattle.session.specs.Session.{states_in, state_at, valid_session}
use Rattle.session.specs.Calls.{Entry, alone, joined, committed, Call, edit, back, forward, call_of}
use Rattle.session.specs.Play.{session_render, session_to_buffer, session_pieces}
use Rattle.session.specs.declared.Session.{Session}
use Rattle.history.specs.Rule.{Hist, new_hist, up_to, envelope_of, ahead_of, rule_of, hist_after, answers_after}

-- "the step memory holds .. for each kept edit (the last ones before the mark) the envelope before it and for each entry after the mark the envelope it gives": edit k in slot k mod D
pub record Holds (start : AutomationEnvelope) (d : ℕ) (h : Hist) (m : List ℕ) : Type 0 where
  pub before : (k : ℕ) → h.mark - h.kept ≤ k → k < h.mark → state_at m (k % d) ≡ pack (up_to start h k)
  pub after : (k : ℕ) → h.mark ≤ k → k < length h.edits → state_at m (k % d) ≡ pack (up_to start h (k + 1))

-- word i is in none of these states
abbrev pub Outside : ℕ → Hist → ℕ → Type 0
Outside d h i = (k : ℕ) → h.mark - h.kept ≤ k → k < length h.edits → i / state_words ≡ k % d → ⊥

-- the place of the next edit's state: the mark modulo D, "0 where D is 0"
abbrev pub place_of : ℕ → Hist → ℕ
place_of d h = cond (eqb d 0) 0 (h.mark % d)

-- "After the list, every run of samples is refused exactly when the table says so": by 3, 13 and 8; "else its samples are that envelope's, and whatever pieces
-- it is cut into, they leave the buffer that it leaves"
pub record Runs (e : AutomationEnvelope) (s : Session) : Type 0 where
  pub run : (rate : Float) (first count place : ℕ) (buffer : List Float)
      → session_render s rate first count place buffer ≡ cond (finite rate) (run_into (samples_of e rate) first count place buffer) (declined 3 buffer)
  pub whole : (rate duration : Float) (place : ℕ) (buffer : List Float)
      → session_to_buffer s rate duration place buffer ≡ cond (finite rate && finite duration) (run_into (samples_of e rate) 0 (sample_count rate duration) place buffer) (declined 3 buffer)
  pub cut : (rate : Float) (first place : ℕ) (buffer : List Float) (counts : List ℕ) → (session_render s rate first (total counts) place buffer).said ≡ gives tt
      → session_pieces s rate first place buffer counts ≡ record { said = replicate (length counts) (gives tt); buffer = (session_render s rate first (total counts) place buffer).buffer }

-- an edit's numbers are in range of their types
abbrev pub typed_entry : Entry → Bool
typed_entry (alone d) = typed_edit d
typed_entry (joined j other) = typed other
typed_entry (committed t) = typed t.first && typed t.second

-- a call's numbers are in range of their types, as every program's are: the theorem speaks of lists of such calls
abbrev pub typed_call : Call → Bool
typed_call (edit x) = typed_entry x
typed_call back = true
typed_call forward = true

-- the history by the rule, for a memory that was lent at opening
abbrev pub history_of : AutomationEnvelope → List ℕ → List Call → Hist
history_of start m₀ cs = hist_after start (states_in (length m₀)) new_hist cs

-- what holds after a list of calls from a new session
pub record After (start : AutomationEnvelope) (m₀ : List ℕ) (cs : List Call) (answers : List (Said (Unit {0}))) (s : Session) (m : List ℕ) : Type 0 where
  -- every answer is the rule's: "An edit is refused exactly when 01's table says so, a step back exactly when none is kept, a step forward exactly when none stands ahead."
  pub said : answers ≡ answers_after start (states_in (length m₀)) new_hist cs
  -- "After the list the session's envelope, kept and number ahead are the ones here"
  pub envelope : s.envelope ≡ envelope_of start (history_of start m₀ cs)
  pub kept : s.kept ≡ (history_of start m₀ cs).kept
  pub ahead : s.ahead ≡ ahead_of (history_of start m₀ cs)
  -- "A session is valid if .."; so no later call gives 1 for it
  pub valid : valid_session s ≡ true
  -- it holds "the u64 length lent at opening", of which D is made
  pub words : s.length ≡ length m₀
  -- the step memory has that length still, so lending it again gives no 11
  pub lent : length m ≡ length m₀
  -- the "place of a state that it holds" is that of the edit to come
  pub place : s.at ≡ place_of (states_in (length m₀)) (history_of start m₀ cs)
  pub holds : Holds start (states_in (length m₀)) (history_of start m₀ cs) m
  -- F-2: "only the edits that altered something count": each entry's envelope differs by a bit from the one before it
  pub alters : (k : ℕ) → k < length (history_of start m₀ cs).edits
      → bit_equal (up_to start (history_of start m₀ cs) k) (up_to start (history_of start m₀ cs) (k + 1)) ≡ false
  -- whatever call comes next: "words in none of these states stay"
  pub stay : (c : Call) (i : ℕ) → Outside (states_in (length m₀)) (rule_of start (states_in (length m₀)) (history_of start m₀ cs) c).hist i
      → get_or (call_of c s m).memory i 0 ≡ get_or m i 0
  pub runs : Runs (envelope_of start (history_of start m₀ cs)) s
