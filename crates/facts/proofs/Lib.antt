pub mod Taps
pub mod Resets
pub mod Known
