-- What a sound image is, and what is promised of one.
pub mod Sound
pub mod Outside
pub mod Holds
pub mod Demand3
