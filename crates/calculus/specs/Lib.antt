-- The definitions, in document 01's order; `Reached`, `States`, `Standard` and `Clauses` are of document 02.
pub mod Limits
pub mod Fold
pub mod Syntax
pub mod Bytes
pub mod Reading
pub mod Truth
pub mod Table
pub mod Reached
pub mod Tree
pub mod Width
pub mod Derivation
pub mod States
pub mod Standard
pub mod Clauses
pub mod Reply
pub mod Starred
pub mod Numbers
