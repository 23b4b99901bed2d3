mod DropLemmas
mod WalksOn
mod Layers
mod Entries
mod FollowLemmas
mod CutsBack
mod BetweenCuts
mod FitLemmas
mod Literals
mod Readers
mod Measures
mod FrontLemmas
mod CuttingLemmas
pub mod DecidedReadings
pub mod BitSymbols
pub mod SharedLists
pub mod MachinesOfOptions
pub mod BoundedWords
pub mod DecidedShares
pub mod SomeAnswer
pub mod OwnWords
mod NumbersInBits
