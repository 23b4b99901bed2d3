pub mod Distinct
pub mod MergedDocuments
pub mod Groups
pub mod Stores
