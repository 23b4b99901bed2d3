pub mod Generator
pub mod Counts
pub mod Counters
pub mod CountingSupport
