-- What the newest meta is, and how a page size is found.
pub mod SizeLaws
pub mod NewestLaws
