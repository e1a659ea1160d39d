pub mod Values
pub mod Mapped
