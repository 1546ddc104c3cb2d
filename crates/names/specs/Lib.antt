-- What the contracts of the naming walk cite beside document 01's definitions.
pub mod Loads
