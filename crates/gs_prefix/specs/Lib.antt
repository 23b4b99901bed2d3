pub mod Lengths
pub mod LengthsSupport
pub mod Rules
pub mod Documents
pub mod Answers
pub mod AnswersSupport
