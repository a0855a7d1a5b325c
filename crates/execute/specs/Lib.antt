pub mod Place
pub mod Registers
pub mod Entry
pub mod Perform
pub mod Fetch
