-- What holds of a cursor's moves: the theorems, and the laws on the way to them.
pub mod Elements
pub mod Stands
pub mod Frame
pub mod Spots
pub mod Chained
pub mod Listed
pub mod Theorems
