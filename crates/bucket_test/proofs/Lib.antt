-- The parts of the words, and places past a count.
pub mod PartLaws
pub mod Ignored
-- Which bucket an answer names, and that nothing else hangs on it.
pub mod Named
pub mod AsBefore
-- A draw to any state, and what a refusal hands back.
pub mod OneStep
pub mod Refusing
-- A carried test: one threshold, the whole state, the beginning, demand 3.
pub mod OneThreshold
pub mod Invariant
mod Beginning
pub mod Demand
mod Trials
-- What the code leaves to do.
pub mod AnsweringLaws
pub mod TurningLaws
mod Parts
pub mod DrawingLaws
