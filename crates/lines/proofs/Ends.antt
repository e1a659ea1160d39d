-- Where the bytes end. Assumes nothing.
use Rattle.std.specs.Prelude.{nat_eq}
use Rattle.std.specs.Cmp.Lexicographic.{pointwise}
use Prim.Native.Nat.{ℕ}
use mathlib.Core.Path.{◌≡◌, refl, sym, ap, ◌∙◌}
use mathlib.Core.Bool.{Bool, ◌&&◌, and_assoc}
use mathlib.Core.List.{List, [], ◌∷◌}
use lib.ListN.{length, drop}
use lib.Dec.{eqb}
use Rattle.fields.specs.Form.{starts_with}
use Rattle.fields.proofs.Starts.{turned}
use Rattle.lines.specs.PointLines.{is_empty}

-- all of the bytes are those of a text
pub whole : (w l : List ℕ) → pointwise nat_eq l w ≡ (starts_with w l && is_empty (drop (length w) l))
unfolding starts_with is_empty
whole [] [] = refl
whole [] (x ∷ l) = refl
whole (b ∷ w) [] = refl
whole (b ∷ w) (x ∷ l) = rw (turned b x) (ap (λ (t : Bool). eqb x b && t) (whole w l) ∙ sym (and_assoc (eqb x b) (starts_with w l) (is_empty (drop (length w) l))))
