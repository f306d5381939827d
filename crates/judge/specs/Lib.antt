-- What the contracts of `judge` cite.
pub mod Judge
pub mod Walk
