-- What holds of a tree that passed: the theorems, and the laws on the way to them.
pub mod KeyLaws
pub mod Slots
pub mod Pages
pub mod Walked
pub mod Search
pub mod Reach
pub mod Count
pub mod Frame
pub mod Depth
pub mod Theorems
pub mod SoundLaws
pub mod Bridge
