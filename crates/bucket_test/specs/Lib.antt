-- What a reader of this crate has to believe: each file after those it rests on, with its sections of docs/RULES.md. Definitions only.
pub mod Words
pub mod Turn
pub mod Answers
pub mod Named
pub mod Draw
pub mod Refused
pub mod Ignored
pub mod OneStep
pub mod Carried
pub mod AsBefore
pub mod Demand3
pub mod Trials
