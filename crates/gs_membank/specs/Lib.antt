pub mod Answers
pub mod AnswersSupport
pub mod Banks
pub mod ShownLines
