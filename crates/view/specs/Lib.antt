-- What the contracts of `view` cite.
pub mod Geometry
pub mod Fault
pub mod View
