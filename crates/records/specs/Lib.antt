pub mod Records
pub mod Matches
pub mod Readings
pub mod Refused
pub mod Writings
pub mod Texts
pub mod Flaws
pub mod Sequence
