-- What the contracts of `size` cite.
pub mod Size
