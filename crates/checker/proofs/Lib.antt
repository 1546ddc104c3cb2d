-- The laws behind the functions' proofs. Assumes nothing.
pub mod Masks
pub mod Commands
pub mod Walking
pub mod Answers
