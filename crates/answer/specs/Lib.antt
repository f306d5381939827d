-- What the contracts of `answer` cite.
pub mod Answer
