-- What every edit of the points is held to: its refusals, and the points that an accepted one gives.
pub mod Settle
pub mod Finish
