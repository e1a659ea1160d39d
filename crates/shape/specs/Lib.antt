-- What each edit of 000 that changes which points there are makes of a list of points.
pub mod Shape
pub mod Neighbours
