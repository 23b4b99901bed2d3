pub mod Sites
pub mod Resolutions
pub mod Visits
pub mod Doors
pub mod Turns
