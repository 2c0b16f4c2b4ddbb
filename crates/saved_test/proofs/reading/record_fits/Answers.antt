-- A known mark, then boundaries that fit.
use Prim.Native.Nat.{◌+◌}
use Rattle.little.specs.Little.{field}
use Rattle.saved_test.specs.Reading.{mark_known, count_fits}
use Rattle.bucket_test.specs.declared.Threshold.{Threshold}
use mathlib.Core.Path.{◌≡◌, ap, ◌∙◌}
use Rattle.saved_test.proofs.reading.record_fits.Goals.{After-mark_known}
use Rattle.saved_test.proofs.reading.record_fits.Goals as goal

known : (c : After-mark_known)
    → c.mark_known.result ≡ mark_known (field 4 c.args.at c.args.bytes.now) (field 4 (c.args.at + 4) c.args.bytes.now)
known c = c.mark_known.ensures ∙ rw (c.read_u32-step.ensures.0, c.read_u32-code.ensures.0)

pub returns-else-mark_known : goal.returns-else-mark_known
returns-else-mark_known c = rw (← known (goal.at.returns-else-mark_known c).After-mark_known, c.if-mark_known.false)

pub returns-then-mark_known : goal.returns-then-mark_known
returns-then-mark_known c =
    rw (← known (goal.at.returns-then-mark_known c).After-mark_known, c.if-mark_known.true)
    (c.count_fits.ensures ∙ ap (λ (t : Threshold). count_fits t.mark t.walked) c.record_from.ensures)
