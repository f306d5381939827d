-- What the contracts of `quick` cite.
pub mod Halving
pub mod Quick
