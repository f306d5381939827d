-- What the contracts of `meta` cite.
pub mod Fnv
pub mod Meta
