use lib.ListN.{take}
use Rattle.std.proofs.lemmas.Result.{err_from_is_err_and}
use Rattle.points.specs.Points.{list_of}
use Rattle.insert.proofs.Inserting.{sorted_held, rising_all, no_room}
use Rattle.insert.proofs.insert_all.Goals as goal

pub insert_point-requires : goal.insert_point-requires
insert_point-requires c =
    sorted_held c.loop-p.made _ c.loop-p.invariant.0 c.loop-p.invariant.1
    (rising_all (list_of c.args.points.now) (take c.loop-p.p-index c.args.new.now) c.requires.rises)

pub returns-in_err-insert_point : goal.returns-in_err-insert_point
returns-in_err-insert_point c =
    let p = err_from_is_err_and c.from_residual.result c.from_residual.ensures.1 in
    rw (p.1, p.2) (no_room (list_of c.args.points.now) c.args.new.now _ _ _ _ c.loop-p-test.true c.loop-p.invariant.0 c.in_err-insert_point.ensures.answer)
