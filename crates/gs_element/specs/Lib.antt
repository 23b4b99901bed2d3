pub mod Answers
pub mod BracketedTexts
pub mod BracketedSupport
pub mod Joins
pub mod Raw
pub mod RawSupport
pub mod WrittenTexts
