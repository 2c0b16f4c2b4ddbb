-- What a reader of this crate has to believe. Definitions only.
pub mod Plans
pub mod States
pub mod Runs
