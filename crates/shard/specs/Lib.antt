-- What the contracts of `shard` cite, and what is promised of them.
pub mod Answer
pub mod Promise
