-- What each edit of 000 that puts points in makes of a list of points.
pub mod Insert
pub mod Inserted
