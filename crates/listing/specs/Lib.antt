pub mod Line
pub mod Sweep
pub mod Vectors
pub mod Text
