-- The laws of nodes and their edits.
pub mod NodeLaws
pub mod ResultLaws
pub mod EditLaws
pub mod InsertLaws
pub mod OutcomeLaws
pub mod Theorems
