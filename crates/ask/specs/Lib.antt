-- What the functions' contracts say.
pub mod Output
