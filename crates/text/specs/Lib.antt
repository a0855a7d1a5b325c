pub mod Lines
pub mod Words
pub mod Numbers
pub mod Hex
pub mod Fnv
pub mod HexText
