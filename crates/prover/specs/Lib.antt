-- What the contracts of the inner step, the run and the call that decides cite beside document 01's definitions.
pub mod Inner
pub mod Runs
pub mod Answers
