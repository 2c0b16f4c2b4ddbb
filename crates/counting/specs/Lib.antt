-- What a reader of this crate has to believe: each file after those it rests on, with its sections of docs/RULES.md. Definitions only.
pub mod Tests
pub mod Run
pub mod OneCall
pub mod Stopping
pub mod Orders
pub mod Share
pub mod Trials
