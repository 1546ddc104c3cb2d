-- What the functions' contracts say.
pub mod Words
