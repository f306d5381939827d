-- The laws of node sizes, for every layer above.
pub mod SizeLaws
