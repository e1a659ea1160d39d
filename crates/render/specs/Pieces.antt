-- 01, "Rendering": the pieces of a run.
use Rattle.std.specs.Prelude.{ℕ, ◌+◌, Bool, List, [], ◌∷◌, Float}
use Rattle.points.specs.Refusal.{Said}
use Rattle.points.specs.declared.Points.{Points}
use Rattle.render.specs.Render.{render}
use Rattle.limits.specs.declared.Limits.{Limits}

-- "counts that add up to its own"
unfoldable pub total : List ℕ → ℕ
total [] = 0
total (n ∷ counts) = n + total counts

-- what each piece says, and the buffer that the last one leaves
pub record Pieces : Type 0 where
  pub said : List (Said (Unit {0}))
  pub buffer : List Float

-- "Its pieces are calls on that envelope at that rate ..: the first from its sample and place on its buffer, each other from where the one before ended, on the buffer as that one left it."
unfoldable pub pieces : Points → Bool → Limits → Float → ℕ → ℕ → List Float → List ℕ → Pieces
unfolding render
pieces points enabled limits rate first place buffer [] = record { said = []; buffer = buffer }
pieces points enabled limits rate first place buffer (n ∷ counts) =
    let piece = render points enabled limits rate first n place buffer in
    let rest = pieces points enabled limits rate (first + n) (place + n) piece.buffer counts in
    record { said = piece.said ∷ rest.said; buffer = rest.buffer }
