-- The laws behind the functions' proofs. Assumes nothing.
pub mod Walks
pub mod MaskTests
pub mod Rounds
pub mod Profiles
pub mod Rights
pub mod Answers
