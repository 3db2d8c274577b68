-- How the code reads the parts of a page, step by step: functions from a tree to the part. Clauses of the readers cite
-- them, and `document_of`, which public clauses name, is built on them; that they agree with the rules of pages is proved.
pub mod Steps
pub mod Values
pub mod Snaks
pub mod Statements
pub mod Terms
pub mod Items
pub mod Lexemes
pub mod Links
pub mod Pages
