-- The laws behind the functions' proofs. Assumes nothing.
pub mod Closings
pub mod Steps
pub mod Runs
pub mod Premises
pub mod Decisions
