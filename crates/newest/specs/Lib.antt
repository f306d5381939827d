-- What the contracts of `newest` cite.
pub mod Newest
