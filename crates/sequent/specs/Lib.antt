-- The running sequent: what names and nodes tell, what its places stand for, and what its methods give.
pub mod Names
pub mod Orders
pub mod Rule
pub mod View
pub mod Passes
pub mod Compounds
