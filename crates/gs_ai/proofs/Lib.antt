pub mod FitLemmas
pub mod PartLemmas
pub mod PartTexts
pub mod PlaceLemmas
pub mod RowLemmas
pub mod RuleLemmas
pub mod TableLemmas
pub mod ValueLemmas
