-- Laws that the crates above cite.
pub mod LimitLaws
pub mod HardLaws
pub mod TwiceLaws
