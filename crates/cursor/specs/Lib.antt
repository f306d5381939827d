-- What the contracts of `cursor` cite.
pub mod Cursor
pub mod Sight
pub mod Working
