-- The calls that the commands of a list stand for, and what holds after their replay.
pub mod Replay
