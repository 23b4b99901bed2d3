pub mod BuiltInLemmas
