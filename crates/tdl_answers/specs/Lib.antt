pub mod Reasons
pub mod TranslatedAnswers
pub mod LongLines
pub mod LongTextsSupport
pub mod DumpAnswers
pub mod LongDumps
pub mod ClassAnswers
pub mod LongClasses
