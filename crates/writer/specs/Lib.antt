-- What the writer's contracts cite beside document 01's definitions.
pub mod Answers
pub mod Emits
