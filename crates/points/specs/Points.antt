-- The points of an envelope, as a list: 01, "Kept, and written anew" and "Points and search".
use Rattle.std.specs.Prelude.{ℕ, ◌+◌, ◌-◌, Bool, true, false, cond, ◌&&◌, List, [], ◌∷◌, ◌++◌, length, take, drop, set, replicate, ltb, leb}
use Rattle.std.specs.List.{list_all}
use Rattle.numbers.specs.Order.{order_key}
use Rattle.points.specs.Point.{finite_point, unused, is_unused}
use Rattle.points.specs.declared.AutomationPoint.{AutomationPoint}
use Rattle.points.specs.declared.Points.{Points}

-- "256 places and a count": the points are the first ones
abbrev pub list_of : Points → List AutomationPoint
list_of ps = take ps.count ps.places

-- "places past the count"
abbrev pub rest_of : Points → List AutomationPoint
rest_of ps = drop ps.count ps.places

-- the places and the count that hold a list
abbrev pub holding : List AutomationPoint → Points
holding l = record { count = length l; places = l ++ replicate (256 - length l) unused }

-- as much of a list as there are places for
unfoldable pub fitting : List AutomationPoint → List AutomationPoint
fitting l = take 256 l

-- one more behind them, where there is a place left
abbrev pub with_more : Points → AutomationPoint → Points
with_more ps p = cond (ltb ps.count 256) (record { count = ps.count + 1; places = set ps.places ps.count p }) ps

-- a test of each element
abbrev pub every : {A : Type 0} → (A → Bool) → List A → Bool
every = list_all

-- each element's key is below the next one's
unfoldable pub rising_by : {A : Type 0} → (A → ℕ) → List A → Bool
rising_by key [] = true
rising_by key (x ∷ []) = true
rising_by key (x ∷ (y ∷ l)) = ltb (key x) (key y) && rising_by key (y ∷ l)

-- a point's place in the order of times, totalOrder
abbrev pub time_key : AutomationPoint → ℕ
time_key p = order_key p.time

-- "times strictly rise by totalOrder"
abbrev pub rising : List AutomationPoint → Bool
rising l = rising_by time_key l

-- the part of validity that the points have: "its count is at most 256, all times, values, controls .. are finite, and times strictly rise .., and the places past the count are as above"
unfoldable pub valid_points : Points → Bool
valid_points ps = leb ps.count 256 && (every finite_point (list_of ps) && rising (list_of ps) && every is_unused (rest_of ps))

-- two lists as long, and a test of each pair
unfoldable pub every_pair : {A : Type 0} → (A → A → Bool) → List A → List A → Bool
every_pair q [] [] = true
every_pair q [] (y ∷ m) = false
every_pair q (x ∷ l) [] = false
every_pair q (x ∷ l) (y ∷ m) = q x y && every_pair q l m
