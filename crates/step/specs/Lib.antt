pub mod Answer
pub mod Action
pub mod Step
pub mod Sound
