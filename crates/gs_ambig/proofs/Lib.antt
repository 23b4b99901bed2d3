pub mod Pieces
pub mod Onward
pub mod SetBits
pub mod Steps
pub mod Pairs
pub mod Partings
pub mod Doubles
