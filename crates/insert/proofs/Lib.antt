pub mod Inserting
pub mod Times
pub mod Ends
