-- What the contracts and theorems of `split` cite.
pub mod Write
pub mod Numbers
