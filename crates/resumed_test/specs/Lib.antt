-- What a reader of this crate has to believe. Definitions only.
pub mod EverAfter
pub mod Saves
