-- The laws of the definitions, for every layer above.
pub mod FieldLaws
pub mod RunLaws
pub mod OrderLaws
pub mod CommonLaws
pub mod WordLaws
pub mod BitLaws
pub mod MarkLaws
pub mod PartLaws
