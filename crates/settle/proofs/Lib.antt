pub mod Judging
pub mod Fitting
