-- What a reader of this crate has to believe, with its sections of docs/SAVED.md. Definitions only; `Inner` is cited by inner contracts alone.
pub mod Calls
pub mod Chain
pub mod Room
pub mod Inner
