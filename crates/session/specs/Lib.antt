-- The session: its calls and what they leave in the step memory; lookups and rendering on its envelope.
pub mod Session
pub mod Calls
pub mod Play
-- What is promised beyond the contracts.
pub mod Promised
