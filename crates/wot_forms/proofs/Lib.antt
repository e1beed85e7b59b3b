pub mod NamedOps
pub mod FormLists
pub mod PatchedForms
pub mod PlainSegments
