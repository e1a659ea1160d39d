-- `replay::Command::call` meets its contract: each arm obeys as the session's own call does, and a command's numbers are in range of their types (`command_typed`).
use Rattle.replay.proofs.ReplayLaws.{command_typed}
use Rattle.replay.proofs.Command.call.Goals as goal

pub returns-in-SetEnabled-clause-typed : goal.returns-in-SetEnabled-clause-typed
returns-in-SetEnabled-clause-typed c = command_typed c.args.self _ c.well_formed.0

pub returns-in-ShiftPoints-clause-typed : goal.returns-in-ShiftPoints-clause-typed
returns-in-ShiftPoints-clause-typed c = command_typed c.args.self _ c.well_formed.0

pub returns-in-Scale-clause-typed : goal.returns-in-Scale-clause-typed
returns-in-Scale-clause-typed c = command_typed c.args.self _ c.well_formed.0

pub returns-in-AddPoint-clause-typed : goal.returns-in-AddPoint-clause-typed
returns-in-AddPoint-clause-typed c = command_typed c.args.self _ c.well_formed.0

pub returns-in-Merge-clause-typed : goal.returns-in-Merge-clause-typed
returns-in-Merge-clause-typed c = command_typed c.args.self _ c.well_formed.0

pub returns-in-Commit-clause-typed : goal.returns-in-Commit-clause-typed
returns-in-Commit-clause-typed c = command_typed c.args.self _ c.well_formed.0
