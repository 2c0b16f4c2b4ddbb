-- The form of a plan, and what reading and writing refuse.
mod FormLaws
mod Refusals
-- The round trips.
mod PlanBack
mod BytesBack
pub mod RoundTrip
mod Trials
