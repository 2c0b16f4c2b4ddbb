-- Tests that are alike are judged alike.
pub mod AlikeLaws
-- The saved form: lengths, and fields of it.
pub mod Sizes
pub mod Fields
-- What the judgements of a form and of a test say, and the two round trips.
pub mod Refusals
pub mod Judged
pub mod HeldLaws
pub mod TestBack
pub mod BytesBack
-- The statements of specs/RoundTrip.
pub mod RoundTrip
-- What the code leaves to do.
mod MarkLaws
mod PlaceRanges
pub mod ReadingLaws
pub mod WritingLaws
mod Trials
