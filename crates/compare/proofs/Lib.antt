pub mod Counts
pub mod Found
pub mod Runs
pub mod Laws
pub mod NewChips
