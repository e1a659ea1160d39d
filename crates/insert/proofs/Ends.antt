-- How the edits that put points in end, by their tests. Assumes nothing.
use Rattle.std.specs.Prelude.{Err}
use Prim.Native.Nat.{ℕ}
use mathlib.Core.Path.{◌≡◌, refl, sym, ap, ◌∙◌}
use mathlib.Core.Bool.{Bool, true, false, ◌&&◌, and-true, and-false}
use mathlib.Core.List.{List, [], ◌∷◌, ◌++◌, map}
use native.Mathlib.Omega.{arith}
use lib.ListN.{length, take, drop, length-map}
use lib.Seq.{take-append_seam}
use lib.Ieee.{Float, binary64, add, of_bits}
use lib.Ieee.Fits.{add-fits}
use Rattle.numbers.proofs.Tests.{and_both}
use Rattle.numbers.specs.Bounds.{finite, zero64}
use Rattle.curve.specs.Curve.{controls, finite_controls}
use Rattle.curve.specs.F32.{f0, f1}
use Rattle.curve.specs.declared.CurveType.{CurveType}
use Rattle.curve.specs.declared.CurveType.TheVariants.{Linear}
use Rattle.points.specs.Checks.{first_failing}
use Rattle.points.specs.Fitted.{fitted}
use Rattle.points.specs.Point.{finite_point, point_with}
use Rattle.points.specs.Points.{every, rising, rising_by, list_of, holding, valid_points}
use Rattle.points.proofs.ValidLaws.{valid_count, valid_finite, valid_rising}
use Rattle.points.specs.declared.AutomationPoint.{AutomationPoint}
use Rattle.points.specs.declared.Points.{Points}
use Rattle.points.specs.declared.refusal.Refusal.TheVariants.{NotFinite}
use Rattle.settle.specs.Settle.{judged, edit_points}
use Rattle.pointwise.specs.Places.{mapped_in}
use Rattle.insert.specs.Insert.{insert_point, insert_all, merged_points, ramp_list, pulse_list}
use Rattle.insert.specs.Inserted.{Sorted}
use Rattle.insert.proofs.Inserting.{every_all, rising_all}
use Rattle.insert.proofs.Times.{shift, fine, fine_insert, points_fine, shifted_lost}

pub sorted_valid : (ps : Points) → valid_points ps ≡ true → holding (list_of ps) ≡ ps → Sorted ps
sorted_valid ps v h = record { few = valid_count ps v; holds = h; rises = valid_rising ps v }

-- of the causes only the last is left
fits : (ps : Points) (ok : Bool) (l : List AutomationPoint) → valid_points ps ≡ true → ok ≡ true → every finite_point l ≡ true → rising l ≡ true → fitted l ≡ edit_points ps ok l
unfolding edit_points judged first_failing
fits ps ok l v o f r = grind arith

-- 3, of an argument or of a point
not_finite : (ps : Points) (ok : Bool) (l : List AutomationPoint) → valid_points ps ≡ true → (ok && every finite_point l) ≡ false → Err NotFinite ≡ edit_points ps ok l
unfolding edit_points judged first_failing
not_finite ps ok l v f = grind arith

-- finite points inserted into valid ones
pub inserted : (ps : Points) (ok : Bool) (new : List AutomationPoint) → valid_points ps ≡ true → ok ≡ true → every finite_point new ≡ true
    → fitted (insert_all (list_of ps) new) ≡ edit_points ps ok (insert_all (list_of ps) new)
inserted ps ok new v o f =
    fits ps ok (insert_all (list_of ps) new) v o (every_all finite_point (list_of ps) new (valid_finite ps v) f) (rising_all (list_of ps) new (valid_rising ps v))

-- one of them
pub added : (ps : Points) (p : AutomationPoint) → valid_points ps ≡ true → finite_point p ≡ true → fitted (insert_point p (list_of ps)) ≡ edit_points ps (finite_point p) (insert_point p (list_of ps))
added ps p v f = inserted ps (finite_point p) (p ∷ []) v f (and_both f refl)

-- finite points inserted where there are none
pub begun : (ps : Points) (ok : Bool) (new : List AutomationPoint) → valid_points ps ≡ true → ok ≡ true → every finite_point new ≡ true
    → fitted (insert_all [] new) ≡ edit_points ps ok (insert_all [] new)
unfolding rising_by
begun ps ok new v o f = fits ps ok (insert_all [] new) v o (every_all finite_point [] new refl f) (rising_all [] new refl)

-- a point of finite value and controls, at 0 or at a finite time
first_fine : (value : Float) → finite value ≡ true → finite_point (point_with zero64 value Linear) ≡ true
unfolding finite finite_controls controls of_bits
first_fine value h = and_both (and_both (refl {a = true}) h) refl

pub ramped : (ps : Points) (duration start end : Float) (c : CurveType) → valid_points ps ≡ true
    → (finite duration && finite start && finite end && finite_controls c) ≡ true
    → fitted (ramp_list duration start end c) ≡ edit_points ps (finite duration && finite start && finite end && finite_controls c) (ramp_list duration start end c)
ramped ps duration start end c v o =
    begun ps _ (point_with zero64 start Linear ∷ (point_with duration end c ∷ [])) v o (grind (arith, first_fine start))

-- what a fade begins or ends with
pub zero_fine : finite f0 ≡ true
unfolding finite of_bits
zero_fine = refl

pub one_fine : finite f1 ≡ true
unfolding finite of_bits
one_fine = refl

-- ---- a pulse: where its sums aren't finite, neither is its list

abbrev third : Float → Float → AutomationPoint
third fade_in sustain = point_with (add binary64 fade_in sustain) f1 Linear

abbrev fourth : Float → Float → Float → CurveType → AutomationPoint
fourth fade_in sustain fade_out c = point_with (add binary64 (add binary64 fade_in sustain) fade_out) f0 c

module _ (ps : Points) (fade_in sustain fade_out : Float) (c : CurveType) (v : valid_points ps ≡ true) where
  abbrev given : Bool
  given = finite fade_in && finite sustain && finite fade_out && finite_controls c

  pub pulsed : (given && finite_point (third fade_in sustain) && finite_point (fourth fade_in sustain fade_out c)) ≡ true
      → fitted (pulse_list fade_in sustain fade_out c) ≡ edit_points ps given (pulse_list fade_in sustain fade_out c)
  pulsed h =
      let first = first_fine f0 zero_fine in
      let one = one_fine in
      begun ps given (point_with zero64 f0 Linear ∷ (point_with fade_in f1 c ∷ (third fade_in sustain ∷ (fourth fade_in sustain fade_out c ∷ [])))) v (grind arith) (grind arith)

  -- the list has both sums
  sums : every finite_point (pulse_list fade_in sustain fade_out c) ≡ true → (fine (third fade_in sustain) && fine (fourth fade_in sustain fade_out c)) ≡ true
  sums h =
      let l = insert_point (point_with fade_in f1 c) (insert_point (point_with zero64 f0 Linear) []) in
      let all = points_fine _ h in
      let two = fine_insert (fourth fade_in sustain fade_out c) (add-fits binary64 (add binary64 fade_in sustain) fade_out) (insert_point (third fade_in sustain) l) in
      let one = fine_insert (third fade_in sustain) (add-fits binary64 fade_in sustain) l in
      grind arith

  pub pulse_lost : (given && finite_point (third fade_in sustain) && finite_point (fourth fade_in sustain fade_out c)) ≡ false
      → Err NotFinite ≡ edit_points ps given (pulse_list fade_in sustain fade_out c)
  pulse_lost h = not_finite ps given (pulse_list fade_in sustain fade_out c) v (go (every finite_point (pulse_list fade_in sustain fade_out c)) refl)
    where
      go : (b : Bool) → every finite_point (pulse_list fade_in sustain fade_out c) ≡ b → (given && b) ≡ false
      go false e = and-false given
      go true e =
          let s = sums e in
          let zero = zero_fine in
          let linear = first_fine f1 one_fine in
          grind arith

-- ---- a merge

mapped : (f : AutomationPoint → AutomationPoint) (ps : Points) → holding (list_of ps) ≡ ps → list_of (mapped_in f ps) ≡ map f (list_of ps)
unfolding mapped_in
mapped f ps h =
    let n : ps.count ≡ length (map f (list_of ps)) = sym (ap (λ (x : Points). x.count) h) ∙ sym (length-map (list_of ps) f) in
    ap (λ (k : ℕ). take k (map f (list_of ps) ++ drop ps.count ps.places)) n ∙ take-append_seam (map f (list_of ps)) (drop ps.count ps.places)

module _ (ps other shifted : Points) (offset : Float) (v : valid_points ps ≡ true) (w : valid_points other ≡ true) (held : holding (list_of other) ≡ other)
    (is : shifted ≡ mapped_in (shift offset) other) (f : finite offset ≡ true) where
  abbrev whole : List AutomationPoint
  whole = insert_all (list_of ps) (map (shift offset) (list_of other))

  list_is : list_of shifted ≡ map (shift offset) (list_of other)
  list_is = ap list_of is ∙ mapped (shift offset) other held

  -- the other's points being valid, it is an edit of ps
  whole_is : edit_points ps (finite offset) whole ≡ merged_points ps other offset
  unfolding edit_points merged_points
  whole_is = rw (w, and-true) refl

  pub merge_lost : every finite_point (list_of shifted) ≡ false → Err NotFinite ≡ merged_points ps other offset
  merge_lost h =
      let lost = shifted_lost offset (list_of ps) (list_of other) (valid_finite other w) (ap (every finite_point) (sym list_is) ∙ h) in
      not_finite ps (finite offset) whole v (ap (λ (b : Bool). finite offset && b) lost ∙ and-false (finite offset)) ∙ whole_is

  pub merge_made : every finite_point (list_of shifted) ≡ true → fitted (insert_all (list_of ps) (list_of shifted)) ≡ merged_points ps other offset
  merge_made h =
      inserted ps (finite offset) (list_of shifted) v f h ∙ ap (λ (l : List AutomationPoint). edit_points ps (finite offset) (insert_all (list_of ps) l)) list_is ∙ whole_is

-- ---- by function

pub ruleset adding = (sorted_valid, added)

pub ruleset merging = (sorted_valid, merge_lost, merge_made)

pub ruleset fading = (zero_fine, one_fine)

pub ruleset pulsing = (pulsed, pulse_lost)
