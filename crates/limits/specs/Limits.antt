-- 01, "Lookup": the constraints, and 02's F-1.
use Rattle.std.specs.Prelude.{Bool, true, false, cond, ◌&&◌, Float, None, Option, Some}
use Rattle.std.specs.Float.{binary32}
use Rattle.std.specs.Float.Ieee.{lt, le, of_bits}
use Rattle.numbers.specs.Whole.{nearest_multiple}
use Rattle.numbers.specs.Bounds.{finite, max_num, min_num}
use Rattle.limits.specs.declared.Limits.{Limits}

-- a limit is "a number or none": whether there is a number
abbrev pub has_limit : Option Float → Bool
has_limit None = false
has_limit (Some x) = true

-- and a number has to be finite
abbrev pub finite_limit : Option Float → Bool
finite_limit None = true
finite_limit (Some x) = finite x

-- "all .. settings are finite"
abbrev pub finite_limits : Limits → Bool
finite_limits l = finite_limit l.min_value && finite_limit l.max_value && finite_limit l.step_size

-- "max with the minimum"
abbrev pub at_least : Option Float → Float → Float
at_least None v = v
at_least (Some m) v = max_num v m

-- "min with the maximum (so the maximum wins if they cross)"
abbrev pub at_most : Option Float → Float → Float
at_most None v = v
at_most (Some m) v = min_num v m

-- "then, for a step above 0, round(value / step) times step"
abbrev pub to_step : Option Float → Float → Float
to_step None v = v
to_step (Some s) v = cond (lt (of_bits binary32 0) s) (nearest_multiple binary32 s v) v

-- both bounds, each where it is set
abbrev pub bounded : Limits → Float → Float
bounded l v = at_most l.max_value (at_least l.min_value v)

-- "Then constraints: .." "The step comes last and may pass a bound." F-1: "With hard on, the minimum and maximum are applied again after the step."
unfoldable pub constrained : Limits → Float → Float
constrained l v = let stepped = to_step l.step_size (bounded l v) in cond l.hard (bounded l stepped) stepped

-- a value "lies between them"
abbrev pub lies_between : Float → Float → Float → Bool
lies_between low high v = le low v && le v high
