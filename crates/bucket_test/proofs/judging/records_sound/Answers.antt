-- The records looked at so far pass.
use mathlib.Core.Path.{◌≡◌, ◌∙◌}
use mathlib.Core.Bool.{false}
use native.Mathlib.Omega.{arith}
use borrow.Author.Rules.{rules}
use Prim.Native.Nat.{◌≤◌, ◌<◌}
use lib.ListN.{length, get_or}
use Rattle.std.proofs.lemmas.Iterator.Consumers.{YieldsList-turn, YieldsList-end}
use Rattle.std.proofs.lemmas.List.{length_push}
use Rattle.plan.proofs.PlaceLaws.{passed, failed, sought_next, sought_here, sought_nowhere}
use Rattle.plan.proofs.AcceptedLaws.{accepted}
use Rattle.plan.proofs.SpendingLaws.{spent_is, may_spend}
use Rattle.bucket_test.specs.Turn.{no_record}
use Rattle.bucket_test.specs.Words.{part_at}
use Rattle.bucket_test.proofs.Parts.{YieldsList-side_by_side, length-side_by_side, at_place}
use Rattle.bucket_test.proofs.judging.records_sound.Invariants.{passes}
use Rattle.bucket_test.proofs.judging.records_sound.Goals.{In-Some, After-record_sound}
use Rattle.bucket_test.proofs.judging.records_sound.Goals as goal

pub portion_at-portion-requires : goal.portion_at-portion-requires
portion_at-portion-requires c = ((accepted c.args.p.now).0 c.requires.0).points_sound.few

pub shared_ref_as_front-iter : goal.shared_ref_as_front-iter
shared_ref_as_front-iter c = ((accepted c.args.p.now).0 c.requires.0).count_range.1

-- the threshold that this turn looks at
turn : (c : In-Some) → let a = c.args in
    let i = length c.loop-record.yielded in
    (i < a.p.now.count)
    × ((c.in-Some.field-0-0-0.now ≡ get_or a.s.now.records i no_record)
    × (c.in-Some.field-0-0-1.now ≡ get_or a.p.now.allowances i 0)
    × (c.in-Some.part.now ≡ part_at i a.words.now))
turn c =
    let p = c.args.p.now in
    let n = p.count in
    let rs = c.args.s.now.records in
    let few = ((accepted p).0 c.requires.0).count_range.1 in
    let a : n ≤ length rs = search (rules, few) in
    let b : n ≤ length p.allowances = search (rules, few) in
    let t = YieldsList-turn (YieldsList-side_by_side rs p.allowances c.args.words.now n a b (cc) (cc) (cc) (cc) c.requires.1) c.loop-record.yielded c.loop-record.record-iterator c.loop-record.yielded_by c.next.result c.next.new.self _ c.in-Some.is c.next.ensures.steps in
    let l : length c.loop-record.yielded < n = omega (arith, t.0, length-side_by_side rs p.allowances c.args.words.now n a b) in
    (l, at_place rs p.allowances c.args.words.now n a b _ _ l t.1)

pub spending_at-requires : goal.spending_at-requires
spending_at-requires c =
    let p = c.args.p.now in
    let t = turn (goal.at.spending_at-requires c).In-Some in
    rw t.1.1 (may_spend p ((accepted p).0 c.requires.0) (length c.loop-record.yielded) c.args.s.now.n t.0 c.requires.2 _ c.portion_at-portion.ensures)

judged : (c : After-record_sound)
    → let a = c.args in
    c.record_sound.result ≡ passes a.p.now a.s.now a.words.now (length c.loop-record.yielded)
judged c =
    let t = turn (goal.at.After-record_sound c).In-Some in
    let spent = spent_is c.args.p.now (length c.loop-record.yielded) c.args.s.now.n _ _ c.portion_at-portion.ensures (rw t.1.1 at c.spending_at.ensures) in
    c.record_sound.ensures ∙ rw (spent, t.1.0, t.1.2)

pub returns-then-not-record_sound : goal.returns-then-not-record_sound
returns-then-not-record_sound c =
    sought_here false _ c.loop-record.invariant (turn (goal.at.returns-then-not-record_sound c).In-Some).0 (failed (judged (goal.at.returns-then-not-record_sound c).After-record_sound) c.if-not-record_sound.true-raw)

pub loop-record-preserved : goal.loop-record-preserved
loop-record-preserved c =
    rw (length_push c.loop-record.yielded ((c.in-Some.field-0-0-0, c.in-Some.field-0-0-1), c.in-Some.part))
    (sought_next false _ c.loop-record.invariant (turn (goal.at.loop-record-preserved c).In-Some).0 (passed (judged (goal.at.loop-record-preserved c).After-record_sound) c.if-not-record_sound.false-raw))

pub returns : goal.returns
returns c =
    let p = c.args.p.now in
    let n = p.count in
    let rs = c.args.s.now.records in
    let few = ((accepted p).0 c.requires.0).count_range.1 in
    let a : n ≤ length rs = search (rules, few) in
    let b : n ≤ length p.allowances = search (rules, few) in
    let t = YieldsList-end (YieldsList-side_by_side rs p.allowances c.args.words.now n a b (cc) (cc) (cc) (cc) c.requires.1) c.loop-record.yielded c.loop-record.record-iterator c.loop-record.yielded_by c.next.result c.next.new.self c.in-None.is c.next.ensures.steps in
    sought_nowhere false _ c.loop-record.invariant (omega (arith, t.1, length-side_by_side rs p.allowances c.args.words.now n a b))
