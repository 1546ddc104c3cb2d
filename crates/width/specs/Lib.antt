-- What the contracts of the width's functions cite beside document 01's definitions.
pub mod Walks
pub mod Answers
