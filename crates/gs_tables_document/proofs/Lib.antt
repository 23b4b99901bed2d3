pub mod ErrorLists
pub mod FormLemmas
pub mod ItemNames
pub mod OneReading
pub mod Parts
pub mod PartWords
