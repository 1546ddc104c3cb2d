-- The laws behind the functions' proofs. Assumes nothing.
pub mod Readers
pub mod Connectives
pub mod Walks
pub mod Marking
pub mod Parts
pub mod Questions
