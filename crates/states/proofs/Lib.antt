-- The laws behind the functions' proofs. Assumes nothing.
pub mod Counts
pub mod Written
pub mod Replies
