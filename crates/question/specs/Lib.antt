-- What the reader's contracts cite beside document 01's definitions.
pub mod Answers
pub mod Connectives
pub mod Positions
