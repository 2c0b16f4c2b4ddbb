-- What a reader of this crate has to believe: each file after those it rests on, with its sections of docs/RULES.md. Definitions only; `Tables`
-- is cited by inner contracts alone.
pub mod Places
pub mod Points
pub mod Plan
pub mod Tables
pub mod SameCounted
pub mod PlanF
pub mod Trials
