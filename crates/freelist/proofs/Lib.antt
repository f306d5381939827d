-- The laws of the definitions: of the table's bits and a page's state, of pages in a list, and of what the calls refuse.
pub mod TableBits
pub mod States
pub mod PageLaws
pub mod EachLaws
pub mod WordLaws
pub mod AnswerLaws
pub mod FaultLaws
pub mod NumberLaws
pub mod RunLaws
pub mod ListLaws
-- The theorems: when a call is done, what it does to every page, what is handed out, and what is listed.
pub mod Conditions
pub mod StateAfter
pub mod HandedOut
pub mod Listing
