pub mod Listed
pub mod Places
pub mod Asked
pub mod Flats
pub mod Rests
pub mod Stacked
