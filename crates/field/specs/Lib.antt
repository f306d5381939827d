-- What the contracts of `field` cite.
pub mod Field
pub mod Run
pub mod Order
pub mod Marks
pub mod Sizes
pub mod Refusal
