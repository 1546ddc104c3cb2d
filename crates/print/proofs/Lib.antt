-- The laws behind the functions' proofs. Assumes nothing.
pub mod Texts
