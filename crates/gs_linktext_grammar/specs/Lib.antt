pub mod Answers
pub mod Bytes
pub mod Prefixes
pub mod Grammar
pub mod Lexemes
pub mod Pieces
