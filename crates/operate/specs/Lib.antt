pub mod Steps
pub mod Snapshot
pub mod Answer
pub mod Call
