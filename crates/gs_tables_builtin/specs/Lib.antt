pub mod BuiltIn
pub mod BuiltInSupport
pub mod BuiltInAis
pub mod BuiltInAisSupport
