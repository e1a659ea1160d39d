-- What validity tells of points, and which lists give valid ones. Assumes nothing.
use Rattle.std.specs.Prelude.{None, Option, Some, is_none}
use Prim.Native.Nat.{ℕ, min, ◌-◌, ◌≤◌, ◌+◌, ◌<◌}
use mathlib.Core.Path.{◌≡◌, refl, sym, ap, ◌∙◌}
use mathlib.Core.Bool.{Bool, true, false, ◌&&◌, false≢true, and-true}
use mathlib.Core.List.{List, [], ◌∷◌, ◌++◌}
use native.Mathlib.Omega.{arith}
use borrow.Author.Tests.{leb-true, ltb-true, ltb-false, le-ltb}
use lib.Dec.{leb, ltb}
use lib.Ieee.{binary32, binary64, of_bits}
use lib.ListN.{length, replicate, length-drop, take-append-drop, set, length-append, length-take}
use lib.Seq.{take-append_seam, drop-append_seam, length-take-le, take_all, take-append-le}
use Rattle.numbers.proofs.BitLaws.{zero_bits}
use Rattle.numbers.proofs.Tests.{and_left, and_right}
use Rattle.numbers.specs.Bounds.{finite}
use Rattle.curve.specs.Curve.{is_linear, code, controls, finite_controls}
use Rattle.curve.proofs.Laws.{linear_is}
use Rattle.points.proofs.Floats.{zero_is}
use Rattle.points.proofs.Laws.{every_replicate, set_next}
use Rattle.points.specs.Point.{unused, is_plus_zero, is_unused, finite_point}
use Rattle.points.specs.Points.{list_of, rest_of, holding, fitting, with_more, every, rising, valid_points}
use Rattle.points.specs.declared.AutomationPoint.{AutomationPoint}
use Rattle.points.specs.declared.Points.{Points}

-- ---- a place that passes the test for an unused one is the unused one

none_is : (x : Option ℕ) → is_none x ≡ true → x ≡ None
none_is None h = refl
none_is (Some n) h = absurd (false≢true h)

unused_is : (p : AutomationPoint) → is_unused p ≡ true → p ≡ unused
unused_is p h =
    let h₃ = and_left (is_plus_zero p.time && is_none p.sample_position && is_plus_zero p.value) (is_linear p.curve) h in
    let h₂ = and_left (is_plus_zero p.time && is_none p.sample_position) (is_plus_zero p.value) h₃ in
    λ i. record {
      time = (zero_is p.time (and_left (is_plus_zero p.time) (is_none p.sample_position) h₂) ∙ sym (zero_bits binary64)) i;
      sample_position = none_is p.sample_position (and_right (is_plus_zero p.time) (is_none p.sample_position) h₂) i;
      value = (zero_is p.value (and_right (is_plus_zero p.time && is_none p.sample_position) (is_plus_zero p.value) h₃) ∙ sym (zero_bits binary32)) i;
      curve = linear_is p.curve (and_right (is_plus_zero p.time && is_none p.sample_position && is_plus_zero p.value) (is_linear p.curve) h) i;
    }

every_unused : (l : List AutomationPoint) → every is_unused l ≡ true → l ≡ replicate (length l) unused
every_unused [] h = refl
every_unused (p ∷ l) h = λ i. unused_is p (and_left (is_unused p) (every is_unused l) h) i ∷ every_unused l (and_right (is_unused p) (every is_unused l) h) i

unused_every : (n : ℕ) → every is_unused (replicate n unused) ≡ true
unfolding code of_bits
unused_every n = every_replicate is_unused n unused refl

-- ---- the numbers of a point that is finite

module _ (p : AutomationPoint) (h : finite_point p ≡ true) where
  numbers : (finite p.time && finite p.value) ≡ true
  numbers = and_left (finite p.time && finite p.value) (finite_controls p.curve) h

  both : finite_controls p.curve ≡ true
  both = and_right (finite p.time && finite p.value) (finite_controls p.curve) h

  pub finite_time : finite p.time ≡ true
  finite_time = and_left (finite p.time) (finite p.value) numbers

  pub finite_value : finite p.value ≡ true
  finite_value = and_right (finite p.time) (finite p.value) numbers

  pub finite_cp1 : finite (controls p.curve).cp1 ≡ true
  unfolding finite_controls
  finite_cp1 = and_left (finite (controls p.curve).cp1) (finite (controls p.curve).cp2) both

  pub finite_cp2 : finite (controls p.curve).cp2 ≡ true
  unfolding finite_controls
  finite_cp2 = and_right (finite (controls p.curve).cp1) (finite (controls p.curve).cp2) both

-- ---- what validity tells

pub valid_count : (ps : Points) → valid_points ps ≡ true → ps.count ≤ 256
unfolding valid_points
valid_count ps v = leb-true ps.count 256 (and_left (leb ps.count 256) _ v)

valid_tests : (ps : Points) → valid_points ps ≡ true → (every finite_point (list_of ps) && rising (list_of ps) && every is_unused (rest_of ps)) ≡ true
unfolding valid_points
valid_tests ps v = and_right (leb ps.count 256) _ v

pub valid_finite : (ps : Points) → valid_points ps ≡ true → every finite_point (list_of ps) ≡ true
valid_finite ps v = and_left (every finite_point (list_of ps)) (rising (list_of ps)) (and_left _ (every is_unused (rest_of ps)) (valid_tests ps v))

pub valid_rising : (ps : Points) → valid_points ps ≡ true → rising (list_of ps) ≡ true
valid_rising ps v = and_right (every finite_point (list_of ps)) (rising (list_of ps)) (and_left _ (every is_unused (rest_of ps)) (valid_tests ps v))

pub valid_rest : (ps : Points) → valid_points ps ≡ true → length ps.places ≡ 256 → rest_of ps ≡ replicate (256 - ps.count) unused
valid_rest ps v len =
    let n : length (rest_of ps) ≡ 256 - ps.count = length-drop ps.count ps.places ∙ ap (λ (k : ℕ). k - ps.count) len in
    every_unused (rest_of ps) (and_right (every finite_point (list_of ps) && rising (list_of ps)) (every is_unused (rest_of ps)) (valid_tests ps v)) ∙ ap (λ (k : ℕ). replicate k unused) n

-- as many points as the count says
pub list_of_length : (ps : Points) → valid_points ps ≡ true → length ps.places ≡ 256 → length (list_of ps) ≡ ps.count
list_of_length ps v len = length-take-le ps.count ps.places (omega (arith, valid_count ps v))

-- ---- lists and the places that hold them

pub list_of_holding : (l : List AutomationPoint) → list_of (holding l) ≡ l
list_of_holding l = take-append_seam l (replicate (256 - length l) unused)

pub rest_of_holding : (l : List AutomationPoint) → rest_of (holding l) ≡ replicate (256 - length l) unused
rest_of_holding l = drop-append_seam l (replicate (256 - length l) unused)

-- valid points are those that hold their list
pub holding_list_of : (ps : Points) → valid_points ps ≡ true → length ps.places ≡ 256 → holding (list_of ps) ≡ ps
holding_list_of ps v len =
    let n = list_of_length ps v len in
    λ i. record {
      count = n i;
      places = (ap (λ (k : ℕ). list_of ps ++ replicate (256 - k) unused) n ∙ ap (λ (l : List AutomationPoint). list_of ps ++ l) (sym (valid_rest ps v len))
          ∙ take-append-drop ps.count ps.places) i;
    }

-- a list gives valid points exactly where it has at most 256 points, finite and rising
pub holding_valid : (l : List AutomationPoint) → valid_points (holding l) ≡ (leb (length l) 256 && (every finite_point l && rising l))
unfolding valid_points
holding_valid l =
    ap (λ (b : Bool). leb (length l) 256 && b)
    (ap (λ (m : List AutomationPoint). every finite_point m && rising m && every is_unused (rest_of (holding l))) (list_of_holding l)
    ∙ ap (λ (b : Bool). every finite_point l && rising l && b) (ap (every is_unused) (rest_of_holding l) ∙ unused_every (256 - length l))
    ∙ and-true (every finite_point l && rising l))

-- a loop that builds points anew: one more
pub pushed : (out : Points) (l : List AutomationPoint) (p : AutomationPoint) → length l < 256 → out ≡ holding l
    → ◌≡◌ {A = Points} (record { count = out.count + 1; places = set out.places out.count p }) (holding (l ++ (p ∷ [])))
pushed out l p h o =
    let n : length l + 1 ≡ length (l ++ (p ∷ [])) = sym (length-append l (p ∷ [])) in
    ap (λ (x : Points). record { count = x.count + 1; places = set x.places x.count p }) o
    ∙ (λ i. record { count = n i; places = set_next l unused p (256 - length l) (256 - length (l ++ (p ∷ []))) (omega arith) i })

-- ---- a list, as far as there are places for it

-- there are for all of it
pub fitting_all : (l : List AutomationPoint) → length l ≤ 256 → fitting l ≡ l
unfolding fitting
fitting_all l h = take_all 256 l h

-- there are for no more
fitting_front : (l m : List AutomationPoint) → 256 ≤ length l → fitting (l ++ m) ≡ fitting l
unfolding fitting
fitting_front l m h = take-append-le 256 l m h

fitting_length : (l : List AutomationPoint) → length (fitting l) ≡ min 256 (length l)
unfolding fitting
fitting_length l = length-take 256 l

-- one more behind what fits
pub more_fitting : (l : List AutomationPoint) (p : AutomationPoint) → with_more (holding (fitting l)) p ≡ holding (fitting (l ++ (p ∷ [])))
more_fitting l p = go (ltb (length l) 256) refl
  where
    go : (b : Bool) → ltb (length l) 256 ≡ b → with_more (holding (fitting l)) p ≡ holding (fitting (l ++ (p ∷ [])))
    go true h =
        let few = ltb-true (length l) 256 h in
        rw (fitting_all l (omega arith), fitting_all (l ++ (p ∷ [])) (omega (arith, length-append l (p ∷ []))), h) (pushed (holding l) l p few refl)
    go false h =
        let many = ltb-false (length l) 256 h in
        let full : ltb (length (fitting l)) 256 ≡ false = le-ltb _ _ (omega (arith, fitting_length l)) in
        rw (fitting_front l (p ∷ []) many, full)

-- valid points have a place each
pub held_few : (ps : Points) → valid_points ps ≡ true → holding (list_of ps) ≡ ps → length (list_of ps) ≤ 256
held_few ps v h = omega (arith, valid_count ps v, ap (λ (x : Points). x.count) h)
