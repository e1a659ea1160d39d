-- Lookups and rendering on the session's envelope: 1 where the session isn't valid, else what the envelope's own call says. They alter nothing.
use Rattle.std.specs.Prelude.{ℕ, ◌+◌, cond, List, [], ◌∷◌, Float, Option}
use Rattle.points.specs.Refusal.{Said, refuses}
use Rattle.render.specs.Render.{Rendered, declined}
use Rattle.render.specs.Pieces.{Pieces}
use Rattle.envelope.specs.Calls.{value_at_of, value_at_sample_of, render_of, to_buffer_of}
use Rattle.session.specs.Session.{valid_session}
use Rattle.session.specs.declared.Session.{Session}

-- 1: "envelope or session not valid"
abbrev pub if_valid : {A : Type 0} → Session → A → A → A
if_valid s own one = cond (valid_session s) own one

-- the lookup by time on a session
unfoldable pub session_value_at : Session → Float → Said (Option Float)
session_value_at s time = if_valid s (value_at_of s.envelope time) (refuses 1)

-- the lookup by sample on a session
unfoldable pub session_value_at_sample : Session → ℕ → Said (Option Float)
session_value_at_sample s sample = if_valid s (value_at_sample_of s.envelope sample) (refuses 1)

-- a run on a session
unfoldable pub session_render : Session → Float → ℕ → ℕ → ℕ → List Float → Rendered
session_render s rate first count place buffer = if_valid s (render_of s.envelope rate first count place buffer) (declined 1 buffer)

-- `to_buffer` on a session
unfoldable pub session_to_buffer : Session → Float → Float → ℕ → List Float → Rendered
session_to_buffer s rate duration place buffer = if_valid s (to_buffer_of s.envelope rate duration place buffer) (declined 1 buffer)

-- a run's pieces: the first from its sample and place on its buffer, "each other from where the one before ended, on the buffer as that one left it"
unfoldable pub session_pieces : Session → Float → ℕ → ℕ → List Float → List ℕ → Pieces
session_pieces s rate first place buffer [] = record { said = []; buffer = buffer }
session_pieces s rate first place buffer (n ∷ counts) =
    let piece = session_render s rate first n place buffer in
    let rest = session_pieces s rate (first + n) (place + n) piece.buffer counts in
    record { said = piece.said ∷ rest.said; buffer = rest.buffer }
