-- The envelope: its record, its equalities, the calls on it, its edits, and its numbers in range of their types.
pub mod Envelope
pub mod Calls
pub mod Edit
pub mod Typed
-- What is promised beyond the contracts.
pub mod Promised
