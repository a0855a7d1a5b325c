pub mod Acting
pub mod Passing
pub mod Working
pub mod Costs
