pub mod FirstValues
pub mod NotedOptions
pub mod WrittenTags
