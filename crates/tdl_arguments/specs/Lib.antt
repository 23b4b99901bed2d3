pub mod Ranges
pub mod Names
pub mod Commands
pub mod CommandReads
pub mod Requests
pub mod Wrongs
pub mod Pages
pub mod RequestsSupport
