pub mod Kind
pub mod Kinds
pub mod Bits
pub mod BinaryLaws
pub mod DoubtingLaws
