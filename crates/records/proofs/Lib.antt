pub mod Hex
pub mod Firsts
pub mod Joins
pub mod Progress
pub mod Turns
