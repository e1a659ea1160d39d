-- 01, "The sheet": what the program prints, and how it is written in blocks.
pub mod Play
pub mod Blocks
-- What is promised beyond the contracts.
pub mod Promised
-- 01's example.
pub mod Examples
