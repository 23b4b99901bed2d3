pub mod Works
pub mod CommandRuns
pub mod Runs
pub mod RanSupport
pub mod Requests
