pub mod Stacked
pub mod Told
