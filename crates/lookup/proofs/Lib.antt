-- The laws on the way of a lookup.
pub mod StepLaws
pub mod DescendLaws
pub mod FindLaws
pub mod LookupLaws
pub mod FoundWithin
