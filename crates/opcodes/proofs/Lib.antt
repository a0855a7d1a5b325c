pub mod Keeps
pub mod Hex
