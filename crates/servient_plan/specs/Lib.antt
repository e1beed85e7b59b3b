pub mod Plan
pub mod BuiltIn
