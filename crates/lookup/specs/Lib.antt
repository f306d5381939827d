-- What the contracts of `lookup` cite, and a descent by any steps.
pub mod Lookup
pub mod Step
pub mod Descent
