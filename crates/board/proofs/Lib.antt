pub mod Pins
pub mod Entries
pub mod Keys
