-- The laws of the answer buffer.
pub mod AnswerLaws
