pub mod Answers
pub mod Operator
pub mod Request
pub mod Trace
