pub mod CollectLaws
pub mod Kept
pub mod Held
pub mod Quantized
