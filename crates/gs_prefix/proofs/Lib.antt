pub mod FindLemmas
pub mod Longest
pub mod Parts
pub mod RejectionLemmas
