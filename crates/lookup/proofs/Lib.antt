-- Laws that the crates above cite too: each way out of a lookup, what validity tells, runs of values.
pub mod LookupLaws
pub mod KeyLaws
pub mod ValidLaws
pub mod RunLaws
