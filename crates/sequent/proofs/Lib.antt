-- The laws behind the functions' proofs. Assumes nothing.
pub mod Lists
pub mod Namings
pub mod Rows
pub mod Placings
pub mod Masks
pub mod Passes
pub mod Letters
pub mod Premises
pub mod Rules
pub mod Firsts
pub mod Restarts
pub mod Sets
pub mod Twins
pub mod Goods
