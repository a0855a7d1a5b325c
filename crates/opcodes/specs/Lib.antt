pub mod Cell
pub mod Cycles
pub mod Hex
pub mod Map
pub mod Mnemonic
pub mod Operand
pub mod Rules
