-- What a reader of this crate has to believe: each file after those it rests on, with its sections of docs/RULES.md. Definitions only.
pub mod Choice
pub mod Chosen
pub mod Trials
