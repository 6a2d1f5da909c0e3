pub mod Results
pub mod Played
pub mod Memory
