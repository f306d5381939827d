-- The laws of the C functions.
pub mod ToldLaws
pub mod SearchLaws
pub mod EditLaws
pub mod SplitLaws
