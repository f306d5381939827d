-- What the contracts of `freelist` cite.
pub mod Table
pub mod Pages
pub mod Answers
pub mod Freelist
