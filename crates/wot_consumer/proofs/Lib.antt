pub mod SegmentLists
pub mod FirstForms
pub mod ValidSchemas
pub mod MemberSteps
pub mod ThingLines
