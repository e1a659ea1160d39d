-- 01, "The sheet": the lines, and what is refused on them.
pub mod Lines
pub mod PointLines
-- What the code's answers say in these terms.
pub mod Told
