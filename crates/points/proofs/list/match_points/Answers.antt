use Rattle.points.proofs.list.match_points.Goals as goal

pub returns-then-exact : goal.returns-then-exact
returns-then-exact c = rw c.if-exact.true c.same_exact.ensures

pub returns-else-exact : goal.returns-else-exact
returns-else-exact c = rw c.if-exact.false c.same.ensures
