-- The stored state of an envelope: its words, what is read of them, and what a call writes.
pub mod State
-- What is promised beyond the contracts.
pub mod Promised
pub mod Examples
