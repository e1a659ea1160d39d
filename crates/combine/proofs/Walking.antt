-- The ordered walk of two lists of points: what is left of a list from a key on, and what one step of the walk does. Assumes nothing.
use Rattle.std.specs.Prelude.{None, Some}
use Prim.Native.Nat.{ℕ, ◌+◌, ◌≤◌, ◌<◌}
use mathlib.Core.Path.{◌≡◌, refl, sym, ◌∙◌}
use mathlib.Core.Bool.{Bool, true, cond, ◌&&◌}
use mathlib.Core.List.{List, [], ◌∷◌, map}
use native.Mathlib.Omega.{arith}
use lib.Dec.{ltb, leb}
use lib.ListN.{length}
use lib.Ieee.{Float}
use Rattle.numbers.specs.Order.{order_key}
use Rattle.points.specs.Point.{time_of}
use Rattle.points.specs.Points.{rising, rising_by, time_key}
use Rattle.points.specs.Search.{place_by}
use Rattle.points.specs.declared.AutomationPoint.{AutomationPoint}
use Rattle.combine.specs.Combine.{merge_from, merge_times}
use Rattle.combine.specs.Walk.{next_time, past}

-- ---- the points from a key on

unfoldable pub from : ℕ → List AutomationPoint → List AutomationPoint
from k [] = []
from k (p ∷ l) = cond (ltb (time_key p) k) (from k l) (p ∷ l)

-- whether the first point, if there is one, doesn't stand before a key
abbrev pub starts : ℕ → List AutomationPoint → Bool
starts k [] = true
starts k (p ∷ l) = leb k (time_key p)

-- they stand behind the key's place
pub place_from : (k : ℕ) (l : List AutomationPoint) → place_by time_key k l + length (from k l) ≡ length l
unfolding place_by from
place_from k [] = refl
place_from k (p ∷ l) = grind (arith, place_from k l)

pub from_starts : (k : ℕ) (l : List AutomationPoint) → starts k (from k l) ≡ true
unfolding from
from_starts k [] = refl
from_starts k (p ∷ l) = grind (arith, from_starts k l)

from_same : (k : ℕ) (l : List AutomationPoint) → starts k l ≡ true → from k l ≡ l
unfolding from
from_same k [] h = refl
from_same k (p ∷ l) h = grind arith

-- none stands before 0
starts_zero : (l : List AutomationPoint) → starts 0 l ≡ true
starts_zero [] = refl
starts_zero (p ∷ l) = grind arith

pub from_zero : (l : List AutomationPoint) → from 0 l ≡ l
from_zero l = from_same 0 l (starts_zero l)

-- from a later key on
from_later : (b k : ℕ) (l : List AutomationPoint) → b ≤ k → from k (from b l) ≡ from k l
unfolding from
from_later b k [] h = refl
from_later b k (p ∷ l) h = grind (arith, from_later b k l)

pub from_next : (b k : ℕ) (l : List AutomationPoint) → b ≤ k → starts k (from b l) ≡ true → from b l ≡ from k l
from_next b k l h s = sym (from_same k (from b l) s) ∙ from_later b k l h

rising_from : (k : ℕ) (l : List AutomationPoint) → rising l ≡ true → rising (from k l) ≡ true
unfolding from rising_by
rising_from k [] r = refl
rising_from k (p ∷ []) r = grind arith
rising_from k (p ∷ (q ∷ l)) r = grind (arith, rising_from k (q ∷ l))

-- past a key of theirs
past_is : (k : ℕ) (l : List AutomationPoint) → rising l ≡ true → starts k l ≡ true → past k l ≡ from (k + 1) l
unfolding past from rising_by
past_is k [] r s = refl
past_is k (p ∷ []) r s = grind arith
past_is k (p ∷ (q ∷ l)) r s = grind arith

pub past_from : (k : ℕ) (l : List AutomationPoint) → rising l ≡ true → past k (from k l) ≡ from (k + 1) l
past_from k l r = past_is k (from k l) (rising_from k l r) (from_starts k l) ∙ from_later k (k + 1) l (omega arith)

-- ---- a step of the walk

abbrev pub times : List AutomationPoint → List Float
times l = map time_of l

-- its time, and what is left after it
pub merge_next : (l m : List AutomationPoint) (t : Float) → next_time l m ≡ Some t → merge_times (times l) (times m) ≡ t ∷ merge_times (times (past (order_key t) l)) (times (past (order_key t) m))
unfolding next_time past merge_times merge_from
merge_next [] [] t h = cc
merge_next [] (q ∷ m) t h = grind arith
merge_next (p ∷ l) [] t h = grind arith
merge_next (p ∷ l) (q ∷ m) t h = grind arith

-- it stands before none of either
pub next_starts : (l m : List AutomationPoint) (t : Float) → next_time l m ≡ Some t → (starts (order_key t) l && starts (order_key t) m) ≡ true
unfolding next_time
next_starts [] [] t h = cc
next_starts [] (q ∷ m) t h = grind arith
next_starts (p ∷ l) [] t h = grind arith
next_starts (p ∷ l) (q ∷ m) t h = grind arith

-- nor before a key that none of them stands before
pub next_after : (b : ℕ) (l m : List AutomationPoint) (t : Float) → starts b l ≡ true → starts b m ≡ true → next_time l m ≡ Some t → b ≤ order_key t
unfolding next_time
next_after b [] [] t x y h = absurd (cc)
next_after b [] (q ∷ m) t x y h = grind arith
next_after b (p ∷ l) [] t x y h = grind arith
next_after b (p ∷ l) (q ∷ m) t x y h = grind arith

-- it is past one at least
pub next_shorter : (l m : List AutomationPoint) (t : Float) → next_time l m ≡ Some t → length (past (order_key t) l) + length (past (order_key t) m) < length l + length m
unfolding next_time past
next_shorter [] [] t h = absurd (cc)
next_shorter [] (q ∷ m) t h = grind arith
next_shorter (p ∷ l) [] t h = grind arith
next_shorter (p ∷ l) (q ∷ m) t h = grind arith

-- where there is no time, no time is left
pub next_none : (l m : List AutomationPoint) → next_time l m ≡ None → merge_times (times l) (times m) ≡ []
unfolding next_time merge_times
next_none [] [] h = refl
next_none [] (q ∷ m) h = cc
next_none (p ∷ l) [] h = cc
next_none (p ∷ l) (q ∷ m) h = cc
