-- Merge, asked first: 02's F-3.
pub mod Ask
