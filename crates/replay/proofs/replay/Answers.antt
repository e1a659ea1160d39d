-- `replay::replay` meets its contract: no call has run (`begun`), each turn runs the next one (`road`, `numbered`, `again`), and behind the last the history theorem
-- speaks of them (`ended`).
use Rattle.std.proofs.Common.{rules, ◌∙◌, length, take, [], ◌∷◌, arith}
use Rattle.std.specs.List.{enumerate_from}
use Rattle.std.proofs.lemmas.List.{length-append, length-take}
use Rattle.std.proofs.lemmas.List.FromFn.{length-enumerate_from}
use Rattle.std.proofs.lemmas.Iterator.{YieldsList, YieldsList-from_slice, YieldsList-from_take}
use Rattle.std.proofs.lemmas.Iterator.Consumers.{YieldsList-from_enumerate, YieldsList-turn, YieldsList-end}
use Rattle.replay.proofs.ReplayLaws.{numbered, begun, again, ended}
use Rattle.replay.proofs.replay.Given as given
use Rattle.replay.proofs.replay.Goals as goal
use Rattle.replay.proofs.replay.Goals.{After-into_iter-i-iterator}

road : (c : After-into_iter-i-iterator)
    → YieldsList (given.iterator-loop-i).next_gives (λ p. (p.0, p.1.now)) c.into_iter-i-iterator.result (enumerate_from 0 (take (length c.args.answers.now) c.args.commands.now))
road c = YieldsList-from_enumerate (YieldsList-from_take (length c.args.answers.now) (YieldsList-from_slice c.args.commands.now (cc)) (cc)) (cc)

pub loop-i-init : goal.loop-i-init
loop-i-init c = (search rules, search rules, begun c.args.target c.args.memory.now c.args.commands.now c.args.answers.now _ c.open-session.ensures)

pub bounds-answers-i : goal.bounds-answers-i
bounds-answers-i c =
    let e = road (goal.at.bounds-answers-i c).After-into_iter-i-iterator in
    let k = YieldsList-turn e c.loop-i.yielded _ c.loop-i.yielded_by _ _ (c.in-Some.i, c.in-Some.command) c.in-Some.is c.next.ensures.steps in
    let n = numbered (length c.args.answers.now) c.args.commands.now (length c.loop-i.yielded) (c.in-Some.i, c.in-Some.command.now) k.0 k.1 in
    omega (arith, n.0, n.1)

pub loop-i-preserved : goal.loop-i-preserved
loop-i-preserved c =
    let e = road (goal.at.loop-i-preserved c).After-into_iter-i-iterator in
    let k = YieldsList-turn e c.loop-i.yielded _ c.loop-i.yielded_by _ _ (c.in-Some.i, c.in-Some.command) c.in-Some.is c.next.ensures.steps in
    let n = numbered (length c.args.answers.now) c.args.commands.now (length c.loop-i.yielded) (c.in-Some.i, c.in-Some.command.now) k.0 k.1 in (
      search rules,
      search rules,
      rw (length-append c.loop-i.yielded ((c.in-Some.i, c.in-Some.command) ∷ []), n.0)
          (again c.args.target c.args.memory.now c.args.commands.now c.args.answers.now _ _ _ _ c.loop-i.invariant.2 c.in-Some.command.now c.call.result _ _ n.3 n.2 (omega (arith, n.1))
          c.call.ensures.obeys c.call.ensures.typed),
    )

pub returns : goal.returns
returns c =
    let e = road (goal.at.returns c).After-into_iter-i-iterator in
    let k = YieldsList-end e c.loop-i.yielded _ c.loop-i.yielded_by _ _ c.in-None.is c.next.ensures.steps in
    ended c.args.target c.args.memory.now c.args.commands.now c.args.answers.now _ _ _ _ c.loop-i.invariant.2 (omega (arith, c.ranges.target))
    (k.1 ∙ length-enumerate_from 0 (take (length c.args.answers.now) c.args.commands.now) ∙ length-take (length c.args.answers.now) c.args.commands.now)
