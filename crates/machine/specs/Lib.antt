pub mod Limits
pub mod Answer
pub mod State
pub mod Calls
pub mod Run
pub mod Questions
