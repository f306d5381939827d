-- The laws of the definitions, and what reading finds of what was written.
mod HashLaws
mod MetaLaws
pub mod ReadBack
