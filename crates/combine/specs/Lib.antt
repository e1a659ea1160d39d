-- 01, "Edits": a combination of two envelopes, over the points, the switch and the limits of each.
pub mod Combine
pub mod Walk
