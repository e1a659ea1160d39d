-- 01, "Analysis", over the points, the switch and the limits of an envelope.
pub mod Analysis
pub mod Ranges
pub mod Examples
