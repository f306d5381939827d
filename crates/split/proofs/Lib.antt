-- The laws of the pieces written, for every layer above.
pub mod PartLaws
pub mod WriteLaws
pub mod PlacedLaws
pub mod PagesLaws
pub mod WrittenLaws
pub mod PiecesPass
