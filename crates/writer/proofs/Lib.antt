-- The laws behind the functions' proofs. Assumes nothing.
pub mod Writes
pub mod Answering
