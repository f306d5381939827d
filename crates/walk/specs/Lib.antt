-- The judge's walk and the lookup over pages as they are viewed, and what a sound tree is.
pub mod Tree
pub mod Sound
pub mod Listing
