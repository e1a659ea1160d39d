-- Bit-equality of envelopes: 02's F-2.
pub mod Equal
-- What is promised beyond the contract.
pub mod Promised
