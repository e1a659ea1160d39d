-- 01, "The sheet" and "What the player declines": what is read, what is refused, what is written.
pub mod Sheet
pub mod Text
-- What the code's answers say in these terms.
pub mod Told
-- What is promised beyond the contracts.
pub mod Promised
-- 01's example.
pub mod Examples
