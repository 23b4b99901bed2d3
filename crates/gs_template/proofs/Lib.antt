pub mod BraceLemmas
pub mod PartLemmas
pub mod TemplateLemmas
