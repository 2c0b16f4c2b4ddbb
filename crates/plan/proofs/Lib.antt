-- Tests by place, refusals in order, and lists made place by place.
pub mod PlaceLaws
pub mod PlaceLists
-- Spending by points.
mod PointLaws
-- The plan's rules in words; places past a count; the trials.
mod Cover
pub mod AcceptedLaws
pub mod SpendingLaws
pub mod SameCountedLaws
mod Trials
