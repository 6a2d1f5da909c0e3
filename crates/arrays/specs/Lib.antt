pub mod Meaning
pub mod Flat
pub mod Rest
pub mod Stack
pub mod Defect
