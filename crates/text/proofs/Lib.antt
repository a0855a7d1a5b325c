pub mod Digits
pub mod Words
pub mod Texts
pub mod HexText
