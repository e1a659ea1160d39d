pub mod Texts
pub mod LineForms
pub mod Meanings
pub mod Sheets
pub mod RoundTrip
pub mod Prefix
