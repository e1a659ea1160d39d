-- 01, "The sheet": the fields of a line, read and written.
pub mod Form
pub mod Text
-- What the code's answers say in these terms.
pub mod Told
