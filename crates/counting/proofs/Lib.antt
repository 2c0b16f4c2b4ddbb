-- Tests, and one call in words.
mod TestLaws
mod JudgingLaws
pub mod OneCall
-- A run over a list of draws.
mod Carried
pub mod Stopping
-- All orders: sums over picks, each order once, the first result's rank.
mod Picks
mod OrderLaws
mod Ranks
mod Firsts
-- The runs of all orders.
mod OrderRuns
pub mod Share
mod Trials
