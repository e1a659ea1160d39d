-- 01's rule of the session over a list of calls, and demand 3: the history theorem.
pub mod Rule
pub mod After
pub mod Promised
-- 01's examples.
pub mod Examples
pub mod Table
