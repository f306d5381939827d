-- The theorems on images, and the pages that a sound tree uses.
pub mod UsedPages
pub mod PassesSound
pub mod Counts
pub mod Demand3
pub mod Quick
pub mod Numbers
