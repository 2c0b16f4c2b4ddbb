-- The chain of calls.
mod PlanRead
pub mod Chain
pub mod Room
-- What the code leaves to do.
mod TurnLaws
mod Taking
mod CallLaws
mod BeginLaws
