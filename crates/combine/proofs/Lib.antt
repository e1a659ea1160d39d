-- What the times of a combination are, and that 6 can't meet it.
pub mod Times
pub mod Combined
pub mod Near
pub mod Walking
pub mod Combining
