pub mod InvocationIds
pub mod SegmentLists
pub mod VerbNames
