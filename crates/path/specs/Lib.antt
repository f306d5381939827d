-- What the contracts of a cursor cite, and what is promised of its moves.
pub mod Path
pub mod Lists
