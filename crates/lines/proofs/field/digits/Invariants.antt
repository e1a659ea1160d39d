use Prim.Native.Nat.{◌<◌, ◌-◌, ◌^◌}
use mathlib.Core.Path.{◌≡◌}
use mathlib.Core.List.{◌++◌}
use lib.ListN.{length, drop}
use Rattle.fields.specs.Form.{read_digits}
use Rattle.lines.proofs.field.digits.Given as goal

abbrev pub invariant-loop-b : goal.invariant-loop-b
invariant-loop-b l = record {
  fits : l.v < l.base ^ l.b-index;
  same : read_digits l.base l.width 0 l.s ≡ read_digits l.base (length l.front - l.b-index) l.v (drop l.b-index l.front ++ l.rest);
}
