-- The laws behind the functions' proofs. Assumes nothing.
pub mod Walks
pub mod Products
pub mod Answers
