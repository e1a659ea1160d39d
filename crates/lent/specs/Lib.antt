-- Merge with the other points as a lent list.
pub mod Merge
