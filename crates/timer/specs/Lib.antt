pub mod Control
pub mod Clock
