-- The tests in words; of the buckets that contain an interval, the first of the narrowest.
pub mod ChoiceLaws
mod ByKey
mod BestLaws
pub mod Choices
mod Trials
