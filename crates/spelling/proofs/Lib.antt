-- The laws behind the functions' proofs. Assumes nothing.
pub mod Order
pub mod Arranges
pub mod Writes
pub mod Replies
