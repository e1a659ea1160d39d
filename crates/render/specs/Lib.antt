-- 01, "Rendering", over the points, the switch and the limits of an envelope.
pub mod Render
pub mod Pieces
pub mod Writer
-- What is promised beyond the contracts.
pub mod Promised
pub mod Examples
