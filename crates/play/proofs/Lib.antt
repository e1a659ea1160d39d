pub mod Texts
pub mod Opening
pub mod Blocks
-- That the blocks are the output, and the laws behind it.
pub mod OutputLaws
pub mod Output
