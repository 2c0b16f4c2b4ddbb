-- The answer rule, put to how the records stand.
use mathlib.Core.Path.{ap, ◌∙◌}
use native.Mathlib.Omega.{arith}
use Rattle.plan.specs.Places.{eq?}
use Rattle.plan.specs.Plan.{Accepted}
use Rattle.plan.proofs.AcceptedLaws.{accepted}
use Rattle.bucket_test.specs.Answers.{is_ending}
use Rattle.saved_test.specs.Form.{record_offset}
use Rattle.saved_test.proofs.ReadingLaws.{form_long}
use Rattle.calls.proofs.CallLaws.{answer_held}
use Rattle.calls.proofs.stands.has_ended.Goals.{Start}
use Rattle.calls.proofs.stands.has_ended.Goals as goal

ok : (c : Start) → Accepted c.args.p.now
ok c = (accepted _).0 c.requires.0

pub standing_in-s-requires : goal.standing_in-s-requires
unfolding record_offset
standing_in-s-requires c = ((ok (goal.at.standing_in-s-requires c).Start).count_range.1, form_long _ _ c.requires.1)

pub read_u32-requires : goal.read_u32-requires
read_u32-requires c = omega (arith, form_long _ _ c.requires.1)

pub first_that_fits-requires : goal.first_that_fits-requires
first_that_fits-requires c = (ok (goal.at.first_that_fits-requires c).Start).buckets_range.1

pub returns : goal.returns
unfolding eq?
returns c =
    let few = (ok (goal.at.returns c).Start).count_range.1 in
    c.is_ending.ensures
    ∙ ap is_ending (answer_held c.args.p.now c.args.bytes.now few c.standing_in-s.result c.standing_in-s.ensures _ (rw c.read_u32.ensures.0 at c.first_that_fits.ensures))
