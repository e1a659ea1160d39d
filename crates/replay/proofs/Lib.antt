-- The turns of the replay, and what holds after it.
pub mod ReplayLaws
