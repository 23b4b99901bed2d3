pub mod Limits
pub mod Items
pub mod ItemsSupport
pub mod Documents
pub mod DocumentsSupport
pub mod Readings
