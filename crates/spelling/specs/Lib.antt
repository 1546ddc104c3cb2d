-- What the contracts cite beside the definitions of documents 01 and 02.
pub mod Sides
pub mod Answers
