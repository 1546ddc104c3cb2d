-- The law behind the functions' proofs. Assumes nothing.
pub mod Decisions
