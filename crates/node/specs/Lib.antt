-- What the contracts of `node` cite.
pub mod Edit
pub mod Measure
pub mod Neighbours
pub mod Numbers
