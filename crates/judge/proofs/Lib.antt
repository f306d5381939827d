-- The laws on the judge's walk.
pub mod JudgeLaws
pub mod RangeLaws
pub mod MarksLaws
pub mod WalkLaws
pub mod PageLaws
