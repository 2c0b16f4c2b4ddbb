-- What a reader of this crate has to believe: each file after those it rests on, with its sections of docs/RULES.md. Definitions only; `Inner` is cited by inner contracts alone.
pub mod Form
pub mod Inner
pub mod Reading
pub mod Writing
pub mod RoundTrip
pub mod Trials
