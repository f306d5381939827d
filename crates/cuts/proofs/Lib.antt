-- The laws of the cuts, for every layer above.
pub mod Halved
pub mod RunLaws
pub mod PartedLaws
pub mod PieceLaws
