pub mod Loads
pub mod LoadsSupport
pub mod Reads
pub mod TextForms
