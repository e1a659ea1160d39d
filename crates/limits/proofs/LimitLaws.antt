-- Each limit of those that are finite is. Assumes nothing.
use mathlib.Core.Path.{◌≡◌}
use mathlib.Core.Bool.{true, ◌&&◌}
use Rattle.numbers.proofs.Tests.{and_left, and_right}
use Rattle.limits.specs.Limits.{finite_limit, finite_limits}
use Rattle.limits.specs.declared.Limits.{Limits}

module _ (l : Limits) (h : finite_limits l ≡ true) where
  bounds : (finite_limit l.min_value && finite_limit l.max_value) ≡ true
  bounds = and_left (finite_limit l.min_value && finite_limit l.max_value) (finite_limit l.step_size) h

  pub finite_min : finite_limit l.min_value ≡ true
  finite_min = and_left (finite_limit l.min_value) (finite_limit l.max_value) bounds

  pub finite_max : finite_limit l.max_value ≡ true
  finite_max = and_right (finite_limit l.min_value) (finite_limit l.max_value) bounds

  pub finite_step : finite_limit l.step_size ≡ true
  finite_step = and_right (finite_limit l.min_value && finite_limit l.max_value) (finite_limit l.step_size) h
