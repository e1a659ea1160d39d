use Prim.Native.Nat.{zero-le}
use mathlib.Core.Path.{◌≡◌, refl, sym, ap, ◌∙◌}
use mathlib.Core.Bool.{true}
use mathlib.Core.List.{[]}
use Rattle.std.proofs.Common.{rules}
use Rattle.points.specs.Fitted.{fitted}
use Rattle.points.specs.Points.{rising, rising_by, time_key}
use Rattle.points.proofs.SliceLaws.{rises_by}
use Rattle.insert.proofs.Inserting.{sorted_held, rising_inserts}
use Rattle.insert.proofs.in_order.Goals as goal

pub returns-then-is_sorted_by : goal.returns-then-is_sorted_by
returns-then-is_sorted_by c =
    let l = c.args.new.now in
    let rise : rising l ≡ true = sym (rises_by time_key _ _ l _ c.is_sorted_by.ensures.cases (λ f a r f' h. search rules)) ∙ c.if-is_sorted_by.true in
    c.from_slice.ensures ∙ ap fitted (sym (rising_inserts l rise))

pub insert_all-requires : goal.insert_all-requires
unfolding rising_by
insert_all-requires c = sorted_held c.none.result [] c.none.ensures zero-le refl
