-- How much the quick lookup looks at, and that it looks at nothing else.
mod RunLaws
mod SameLaws
pub mod SameAnswer
pub mod FewElements
pub mod FewBytes
pub mod Inside
