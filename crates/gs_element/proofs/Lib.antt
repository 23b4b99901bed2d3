pub mod BodyLemmas
pub mod BracketLemmas
pub mod JoinLemmas
pub mod RawLemmas
pub mod WritingLemmas
