-- What the contracts of `cuts` cite.
pub mod Split
pub mod Run
pub mod Parted
pub mod Numbers
