-- 01, "Lookup": the constraints, and 02's F-1.
pub mod Limits
-- What is promised beyond the contracts.
pub mod Promised
