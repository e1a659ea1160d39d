-- A combination's times rise, so 6 can't meet it. Assumes nothing.
use Rattle.std.specs.Prelude.{Err}
use mathlib.Core.Path.{◌≡◌, ◌∙◌}
use mathlib.Core.Bool.{true, ◌&&◌}
use Rattle.points.proofs.Laws.{rising_map}
use Rattle.points.specs.Point.{time_of}
use Rattle.numbers.proofs.Tests.{and_left, and_right}
use Rattle.numbers.specs.Order.{order_key}
use Rattle.points.specs.Points.{rising_by, rising, time_key, list_of, valid_points}
use Rattle.points.proofs.ValidLaws.{valid_rising}
use Rattle.points.specs.declared.refusal.Refusal.TheVariants.{TimesDontRise}
use Rattle.settle.specs.Settle.{plain}
use Rattle.settle.proofs.Judging.{never_six}
use Rattle.limits.specs.Limits.{finite_limits}
use Rattle.lookup.specs.Heard.{Heard}
use Rattle.combine.specs.Combine.{finite_operation, merge_times, times_of, valid_side, combined_point, combined_list, combined_points}
use Rattle.combine.proofs.Times.{merged_rising}
use Rattle.combine.specs.declared.Operation.{Operation}

-- a valid side's points and times
pub side_points : (s : Heard) → valid_side s ≡ true → valid_points s.points ≡ true
side_points s v = and_right (finite_limits s.limits) (valid_points s.points) v

pub side_rises : (s : Heard) → valid_side s ≡ true → rising_by order_key (times_of s) ≡ true
side_rises s v = rising_map time_of order_key (list_of s.points) ∙ valid_rising s.points (side_points s v)

pub combined_rises : (op : Operation) (a b : Heard) → valid_side a ≡ true → valid_side b ≡ true → rising (combined_list op a b) ≡ true
combined_rises op a b v w = rising_map (combined_point op a b) time_key (merge_times (times_of a) (times_of b)) ∙ merged_rising (times_of a) (times_of b) (side_rises a v) (side_rises b w)

-- 6 can't meet a combination
pub never_falls : (op : Operation) (a b : Heard) → combined_points op a b ≡ Err TimesDontRise → ⊥
unfolding combined_points
never_falls op a b =
    never_six (valid_side a && valid_side b) (plain (finite_operation op) (combined_list op a b))
    (λ v. combined_rises op a b (and_left (valid_side a) (valid_side b) v) (and_right (valid_side a) (valid_side b) v))
