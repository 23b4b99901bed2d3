pub mod LineLemmas
pub mod StepLemmas
pub mod DumpAnswerLaws
pub mod DumpLineLemmas
pub mod ClassLineLemmas
