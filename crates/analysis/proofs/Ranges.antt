-- Ranges: the least and the greatest of lookups, one by one. Assumes nothing.
use Rattle.std.specs.Prelude.{None, Option, Some}
use Prim.Native.Nat.{ℕ, ◌+◌, ◌*◌, ◌/◌, ◌≤◌}
use mathlib.Core.Path.{◌≡◌, refl, sym, ap, ap₂, ◌∙◌}
use mathlib.Core.Bool.{cond}
use mathlib.Core.List.{List, [], ◌∷◌, ◌++◌}
use native.Mathlib.Numerals.{add-one}
use native.Mathlib.Nat.{zero-add, suc-mul, div-mul-le_self}
use native.Mathlib.Omega.{arith}
use lib.Ieee.{Float}
use Rattle.std.specs.List.{fold}
use Rattle.std.proofs.lemmas.List.Folds.{fold_along}
use Rattle.std.proofs.lemmas.List.Sums.{fold-append}
use Rattle.numbers.specs.Bounds.{finite, max_num, min_num}
use Rattle.lookup.specs.Runs.{run}
use Rattle.lookup.proofs.RunLaws.{run_cut, run_one}
use Rattle.analysis.specs.Analysis.{given_values, range_of}
use Rattle.analysis.specs.Ranges.{no_values, widen, add_value, as_range}
use Rattle.analysis.specs.declared.Bounds.{Bounds}

-- the bounds are the two folds of `range_of`
pub range_is : (l : List Float) → as_range (fold widen no_values l) ≡ range_of l
unfolding range_of
range_is l =
    ap₂ (λ (low high : Float). cond (finite low) (Some (low, high)) None)
    (fold_along widen min_num (λ b c. b.low ≡ c) (λ b c x e. ap (λ (y : Float). min_num y x) e) no_values no_values.low l refl)
    (fold_along widen max_num (λ b c. b.high ≡ c) (λ b c x e. ap (λ (y : Float). max_num y x) e) no_values no_values.high l refl)

-- ---- one more lookup

given_append : (l m : List (Option Float)) → given_values (l ++ m) ≡ given_values l ++ given_values m
unfolding given_values
given_append [] m = refl
given_append (None ∷ l) m = given_append l m
given_append (Some v ∷ l) m = ap (λ (r : List Float). v ∷ r) (given_append l m)

given_one : (b : Bounds) (v : Option Float) → fold widen b (given_values (v ∷ [])) ≡ add_value b v
unfolding given_values
given_one b None = refl
given_one b (Some v) = refl

given_more : (f : ℕ → Option Float) (b : Bounds) (n : ℕ) → fold widen b (given_values (run f 0 (n + 1))) ≡ add_value (fold widen b (given_values (run f 0 n))) (f n)
given_more f b n =
    ap (λ (l : List (Option Float)). fold widen b (given_values l)) (run_cut f 0 n 1 ∙ ap (λ (l : List (Option Float)). run f 0 n ++ l) (run_one f (0 + n)))
    ∙ ap (λ (l : List Float). fold widen b l) (given_append (run f 0 n) (f (0 + n) ∷ []))
    ∙ fold-append widen b (given_values (run f 0 n)) (given_values (f (0 + n) ∷ []))
    ∙ given_one (fold widen b (given_values (run f 0 n))) (f (0 + n))
    ∙ ap (λ (k : ℕ). add_value (fold widen b (given_values (run f 0 n))) (f k)) (zero-add n)

-- a turn of the loop of lookups
pub lookup_turn : (f : ℕ → Option Float) (n : ℕ) (b new : Bounds) (v : Option Float) → b ≡ fold widen no_values (given_values (run f 0 n)) → new ≡ add_value b v → v ≡ f n
    → new ≡ fold widen no_values (given_values (run f 0 (n + 1)))
lookup_turn f n b new v e h w = h ∙ ap₂ add_value e w ∙ sym (given_more f no_values n)

pub lookup_none : (f : ℕ → Option Float) → no_values ≡ fold widen no_values (given_values (run f 0 0))
unfolding given_values run
lookup_none f = refl

-- ---- the steps of a range of samples

-- the last place looked at is no further than the end
pub last_place : (span step : ℕ) → span / step * step ≤ span
last_place span step = div-mul-le_self span step

pub next_place : (start span step : ℕ) → start + span / step * step + step ≡ start + (span / step + 1) * step
next_place start span step = let e : (span / step + 1) * step ≡ span / step * step + step = rw add-one (suc-mul (span / step) step) in omega arith

-- the bounds of lookups, and of the points inside too
pub range_with : (l m : List Float) → as_range (fold widen (fold widen no_values l) m) ≡ range_of (l ++ m)
range_with l m = ap as_range (sym (fold-append widen no_values l m)) ∙ range_is (l ++ m)
