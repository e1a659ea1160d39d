-- The theorem, that every list has its run, and that an idle edit may stand anywhere in it.
pub mod History
pub mod Run
pub mod Idle
pub mod Tickets
-- What it cites: the entries of an edit, a step of the rule, each kind of call, and what is played afterwards.
pub mod Entries
pub mod Steps
pub mod Edits
pub mod Moves
pub mod Played
