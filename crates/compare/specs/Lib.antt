pub mod Differences
pub mod Played
pub mod Compared
pub mod Errors
pub mod FirstRefusals
pub mod Built
pub mod Texts
