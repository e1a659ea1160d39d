-- Ranges, and peaks and valleys.
pub mod Ranges
pub mod Middles
