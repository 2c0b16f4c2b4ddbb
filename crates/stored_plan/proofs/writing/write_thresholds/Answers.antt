-- The counted places of both tables are the entries.
use mathlib.Core.Path.{◌≡◌, refl}
use native.Mathlib.Omega.{arith}
use lib.ListN.{length, take}
use lib.Seq.{length-take-le}
use Rattle.stored_plan.specs.Form.{bucket_offset, threshold_entries}
use Rattle.stored_plan.proofs.FormLaws.{counted_entries}
use Rattle.stored_plan.proofs.writing.write_thresholds.Goals as goal

pub write_entries-requires : goal.write_entries-requires
unfolding bucket_offset
write_entries-requires c =
    let p = c.args.p.now in
    let many : length (take p.count p.thresholds) ≡ p.count = length-take-le p.count p.thresholds (omega arith) in
    let also : length (take p.count p.allowances) ≡ p.count = length-take-le p.count p.allowances (omega arith) in
    (omega arith, omega arith)

pub returns : goal.returns
unfolding threshold_entries
returns c =
    let p = c.args.p.now in
    let k = p.count in
    let many : length (take k p.thresholds) ≡ k = length-take-le k p.thresholds (omega arith) in
    rw (many, counted_entries 4 8 k p.thresholds p.allowances p.allowances (λ i l. refl)) at c.write_entries.ensures
