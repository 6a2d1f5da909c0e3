pub mod Calls
pub mod Cycles
