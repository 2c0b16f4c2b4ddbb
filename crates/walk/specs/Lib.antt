-- What a reader of this crate has to believe: each file after those it rests on, with its sections of docs/RULES.md. Definitions only; `Weighing`
-- is cited by inner contracts alone.
pub mod Numbers
pub mod Units
pub mod Spending
pub mod Mass
pub mod MassLine
pub mod Walk
pub mod Row
pub mod Strings
pub mod Chance
pub mod Facts
pub mod Record
pub mod Soundness
pub mod Weighing
