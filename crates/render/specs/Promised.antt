-- What is promised beyond the functions' contracts: statements alone, each proved by the law that its comment names.
use Rattle.std.specs.Prelude.{ℕ, ◌≡◌, Bool, List, length, replicate, Float}
use Rattle.points.specs.Refusal.{gives}
use Rattle.points.specs.declared.Points.{Points}
use Rattle.limits.specs.declared.Limits.{Limits}
use Rattle.render.specs.Render.{render}
use Rattle.render.specs.Pieces.{total, pieces}

-- 01, "Rendering": "If the run isn't refused, no piece is, and they leave the buffer that it leaves" (`no_piece_refused`, proofs/PieceLaws)
abbrev pub NoPieceRefused : Type 0
NoPieceRefused =
    (points : Points) (enabled : Bool) (limits : Limits) (rate : Float) (first place : ℕ) (buffer : List Float) (counts : List ℕ)
    → (render points enabled limits rate first (total counts) place buffer).said ≡ gives tt
    → pieces points enabled limits rate first place buffer counts
    ≡ record { said = replicate (length counts) (gives tt); buffer = (render points enabled limits rate first (total counts) place buffer).buffer }
