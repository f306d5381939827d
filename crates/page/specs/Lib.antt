-- What the contracts of `page` cite.
pub mod Layout
pub mod PageRules
pub mod Search
pub mod Numbers
