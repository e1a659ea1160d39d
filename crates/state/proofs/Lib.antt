-- What was packed reads back, and what reads was packed so.
pub mod StateLaws
-- The words as the loops write and read them; what reading says.
pub mod Words
pub mod Calls
