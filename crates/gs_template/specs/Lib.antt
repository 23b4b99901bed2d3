pub mod Templates
pub mod Errors
pub mod Progress
