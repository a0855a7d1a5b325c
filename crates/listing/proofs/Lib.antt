pub mod Zeros
pub mod Lists
