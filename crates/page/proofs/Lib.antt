-- The laws of the definitions, for every layer above.
pub mod TestLaws
pub mod LayoutLaws
pub mod BlockLaws
pub mod RuleLaws
mod PassLaws
pub mod FirstBreach
pub mod LentLaws
pub mod EntryLaws
pub mod SearchLaws
