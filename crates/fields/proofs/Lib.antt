pub mod ReadDigits
pub mod Starts
pub mod Forms
pub mod Decimal
pub mod Stores
pub mod Places
pub mod Back
pub mod Target
