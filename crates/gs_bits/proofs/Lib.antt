pub mod PackedBits
pub mod HexBits
pub mod ByteBits
pub mod EightBytes
