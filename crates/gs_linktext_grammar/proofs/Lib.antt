pub mod ChainLemmas
pub mod PrefixLemmas
pub mod LexLemmas
pub mod PartLemmas
