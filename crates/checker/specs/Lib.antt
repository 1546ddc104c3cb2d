-- What the checker's contracts cite beside document 01's definitions.
pub mod Answers
pub mod Walks
