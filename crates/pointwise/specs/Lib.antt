-- What each edit of 000 that changes each point by itself makes of a list of points.
pub mod Each
pub mod Places
