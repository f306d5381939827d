-- The laws of a cursor's pages and paths.
pub mod SightLaws
pub mod MetLaws
pub mod StepsLaws
pub mod OuterLaws
pub mod FollowLaws
pub mod BesideLaws
pub mod LevelLaws
