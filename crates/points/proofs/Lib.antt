-- What owning a value tells: there are 256 places, and times are `f64`s.
pub mod Good
pub mod Fits
-- Laws that the crates above cite too: of answers and checks in a row, of lists and the tests over them, of valid points, of floats, of a search by key, of
-- the middle ones of three.
pub mod CheckLaws
pub mod Laws
pub mod ValidLaws
pub mod FloatLaws
pub mod SearchLaws
pub mod SliceLaws
pub mod MiddleLaws
pub mod WindowLaws
pub mod BuildLaws
-- What the proofs of several functions cite.
pub mod Floats
