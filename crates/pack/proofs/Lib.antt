-- The laws of packed blocks, for every layer above.
pub mod PackLaws
pub mod Decode
pub mod PackedSound
pub mod RangeLaws
pub mod PlanLaws
