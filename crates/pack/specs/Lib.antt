-- What the contracts and theorems of `pack` cite.
pub mod Pack
pub mod Plan
pub mod Entries
