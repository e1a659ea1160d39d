-- Slots of the step memory; each way out of a call; that a refused call changes nothing; lookups and runs on a session.
pub mod Slots
pub mod Ways
pub mod Refusals
pub mod PlayLaws
