-- For the code's own use: what comparing neighbours keeps. `firsts` of Shape.antt is what quantizing is held to; proofs/Quantized.antt has that the two agree.
use Rattle.std.specs.Prelude.{cond, List, [], ◌∷◌, eqb, Option, Some, None}
use Rattle.points.specs.Points.{time_key}
use Rattle.points.specs.declared.AutomationPoint.{AutomationPoint}

-- the points after p, without those at the time of the one kept before them
unfoldable pub differing_after : AutomationPoint → List AutomationPoint → List AutomationPoint
differing_after p [] = []
differing_after p (q ∷ l) = cond (eqb (time_key p) (time_key q)) (differing_after p l) (q ∷ differing_after q l)

-- of neighbours at the same time the first
unfoldable pub without_repeats : List AutomationPoint → List AutomationPoint
unfolding differing_after
without_repeats [] = []
without_repeats (p ∷ l) = p ∷ differing_after p l

-- the second of two neighbours, if it has a time of its own
abbrev pub later : List AutomationPoint → Option AutomationPoint
later [] = None
later (p ∷ []) = None
later (p ∷ (q ∷ [])) = cond (eqb (time_key p) (time_key q)) None (Some q)
later (p ∷ (q ∷ (r ∷ l))) = None
