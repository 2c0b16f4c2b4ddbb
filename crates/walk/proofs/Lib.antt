-- Numbers, lists and signed numbers.
pub mod Tests
pub mod Lists
pub mod Searches
pub mod Boundaries
pub mod Signed
-- One mass, the cells of a row, where they are cut, one step, and the walk's rows.
mod Rounding
mod Cells
mod Cuts
pub mod RowSteps
-- The two forms of the walk agree.
pub mod Agreement
pub mod SpendingLaws
-- Strings, exact weights, first meetings, and the chance theorem.
mod StringLaws
mod Exact
pub mod Meeting
pub mod Chances
pub mod WalkFacts
-- What `bucket_test` cites of records and soundness.
pub mod SoundnessLaws
pub mod RecordLaws
-- What the loops of the code leave to do.
mod Loops
mod WeighingLaws
mod Parts
