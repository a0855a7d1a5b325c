pub mod BitLaws
pub mod ConditionBytes
pub mod Every
pub mod Shifts
