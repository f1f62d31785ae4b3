pub mod GroupTests
pub mod MergingBackwards
pub mod MergingGroups
