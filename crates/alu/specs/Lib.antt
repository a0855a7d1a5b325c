pub mod Bit
pub mod Condition
pub mod Flags
pub mod Modify
pub mod Pins
pub mod Shift
pub mod Sum
