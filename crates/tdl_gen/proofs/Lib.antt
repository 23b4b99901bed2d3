pub mod OneCount
mod AnswerLemmas
mod CountLemmas
mod LineLemmas
