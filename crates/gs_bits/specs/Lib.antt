pub mod BitLaws
pub mod Bits
pub mod Digits
pub mod HexText
pub mod PackedBits
