-- The laws on halving, and on the lookup by it.
pub mod TurnLaws
pub mod PlaceLaws
pub mod HalvedLaws
pub mod PageLaws
pub mod Agrees
pub mod FoundWithin
