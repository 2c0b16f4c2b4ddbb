-- The tests of refusal 15 in the code's order.
use mathlib.Core.Path.{refl}
use Rattle.plan.proofs.PlaceLaws.{passed, failed}
use Rattle.saved_test.proofs.ReadingLaws.{fits_short, fits_size, fits_header, fits_records}
use Rattle.saved_test.proofs.reading.form_fits.Goals as goal

pub returns-then-bytes-offset : goal.returns-then-bytes-offset
returns-then-bytes-offset c = fits_short _ _ _ refl c.if-bytes-offset.true

pub returns-then-bytes-size : goal.returns-then-bytes-size
returns-then-bytes-size c = fits_size _ _ _ refl _ c.masses_in-masses.ensures.0 c.if-bytes-size.true

pub returns-then-not-header_fits : goal.returns-then-not-header_fits
returns-then-not-header_fits c =
    fits_header _ _ _ refl _ c.masses_in-masses.ensures.0 c.if-bytes-size.false
    (failed c.header_fits.ensures c.if-not-header_fits.true-raw)

pub returns : goal.returns
returns c =
    fits_records _ _ _ refl _ c.masses_in-masses.ensures.0 c.if-bytes-size.false
    (passed c.header_fits.ensures c.if-not-header_fits.false-raw) _ c.records_fit.ensures
