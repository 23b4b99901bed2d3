pub mod AnswerLines
pub mod Rejections
