-- What a reader of this crate has to believe: each file after those it rests on, with its sections of docs/RULES.md. Definitions only.
pub mod Ascii
pub mod Line
pub mod Input
pub mod Run
pub mod Program
