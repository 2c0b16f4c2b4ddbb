-- 12, else the masses, then header and records, then the answer.
use mathlib.Core.Path.{◌≡◌, refl, ap, ◌∙◌}
use native.Mathlib.Omega.{arith}
use Prim.Native.Nat.{◌+◌, ◌*◌, ◌≤◌}
use lib.ListN.{length}
use Rattle.walk.specs.Numbers.{le?}
use Rattle.walk.specs.Units.{M}
use Rattle.walk.proofs.Tests.{le?_sound}
use Rattle.refusals.proofs.RefusalLaws.{kept, broken}
use Rattle.plan.proofs.AcceptedLaws.{accepted}
use Rattle.bucket_test.specs.Answers.{answer_of}
use Rattle.bucket_test.specs.Draw.{start_state}
use Rattle.bucket_test.specs.declared.State.{State}
use Rattle.saved_test.specs.Form.{mass_size, record_offset}
use Rattle.calls.proofs.BeginLaws.{start_size, state_start, live_few, begins_12, begins_form}
use Rattle.calls.proofs.beginning.begin_on.Goals.{Start, After-ten_of-s, In_ok-ensure}
use Rattle.calls.proofs.beginning.begin_on.Goals as goal

pub returns-in_err-ensure : goal.returns-in_err-ensure
unfolding le? record_offset
returns-in_err-ensure c =
    let a = c.args in
    let size = start_size a.p.now c.requires in
    let b = broken {b = le? (record_offset a.p.now.count + mass_size * a.p.now.count) (length a.lent.now)} refl _ _ c.in_err-ensure.ensures in
    begins_12 a.p.now c.requires a.lent.now (rw (← size) b.0) _ b.1 _ c.from_residual.ensures.1

-- past 12
fits : (c : In_ok-ensure) → record_offset c.args.p.now.count + mass_size * c.args.p.now.count ≤ length c.args.lent.now
unfolding le? record_offset
fits c = le?_sound _ _ (kept {b = le? (record_offset c.args.p.now.count + mass_size * c.args.p.now.count) (length c.args.lent.now)} refl _ c.in_ok-ensure.ensures)

pub start_masses-requires : goal.start_masses-requires
start_masses-requires c = (((accepted _).0 c.requires).count_range.1, fits (goal.at.start_masses-requires c).In_ok-ensure)

starts : (c : After-ten_of-s) → c.ten_of-s.result ≡ start_state
starts c = state_start c.args.p.now c.requires _ _ c.ten_of-s.ensures c.start_walked.ensures

pub write_front-requires : goal.write_front-requires
write_front-requires c = (
  ((accepted c.args.p.now).0 c.requires).count_range.1,
  λ i l. rw (starts (goal.at.write_front-requires c).After-ten_of-s) (live_few c.args.p.now c.requires i l),
  omega (arith, fits (goal.at.write_front-requires c).In_ok-ensure, c.start_masses.auto.lent),
)

pub answer_of-requires : goal.answer_of-requires
answer_of-requires c =
    let ok = (accepted c.args.p.now).0 c.requires in
    (ok.count_range.1, ok.buckets_range.1)

pub returns : goal.returns
unfolding M
returns c =
    let p = c.args.p.now in
    let is = starts (goal.at.returns c).After-ten_of-s in
    let answer = c.answer_of.ensures ∙ ap (λ (x : State). answer_of p x) is in
    let room = rw (start_size p c.requires) at (fits (goal.at.returns c).In_ok-ensure) in
    begins_form p c.requires c.args.lent.now room _ answer _ _ c.start_masses.ensures (rw is at c.write_front.ensures)
