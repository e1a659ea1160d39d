-- Laws that the crates above cite too: a curve's number and back, its controls, and the derived `==`.
pub mod Laws
pub mod Plain
pub mod Equal
