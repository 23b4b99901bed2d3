pub mod Parts
pub mod PredefinedLengths
pub mod Tables
pub mod TablesSupport
pub mod Values
pub mod ValuesSupport
