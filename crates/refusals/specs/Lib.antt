-- What a reader of this crate has to believe (rules 8.1, 8.2). Definitions only.
pub mod Refusals
