pub mod State
pub mod Map
pub mod Pins
pub mod Memory
pub mod Stack
pub mod Reset
pub mod Cycle
