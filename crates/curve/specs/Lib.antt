pub mod F32
pub mod Curve
pub mod Examples
