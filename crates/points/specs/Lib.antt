-- The records of document 01, and what they hold, as lists; where a search ends; the middle ones of three.
pub mod Refusal
pub mod Checks
pub mod Point
pub mod Points
pub mod Fitted
pub mod Search
pub mod Middles
