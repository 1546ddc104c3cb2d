-- The laws behind the functions' proofs. Assumes nothing.
pub mod Naming
pub mod Entering
pub mod Sides
