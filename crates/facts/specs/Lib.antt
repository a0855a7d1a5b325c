pub mod Setting
pub mod Cases
