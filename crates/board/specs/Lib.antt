pub mod Reading
pub mod Refused
pub mod Contract
pub mod Switches
pub mod Schedule
pub mod Matrix
pub mod Any
pub mod LawsKept
