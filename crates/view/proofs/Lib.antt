-- The laws on views of pages, on the pages of blocks, and on geometry.
pub mod GeometryLaws
pub mod ViewLaws
pub mod ViewFrame
pub mod PagesLaws
pub mod ImageLaws
