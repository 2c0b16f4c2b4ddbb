-- After i turns the first i records and parts have had theirs; the others are as they were.
use mathlib.Core.Path.{◌≡◌, refl, ap, ◌∙◌}
use Prim.Native.Nat.{◌+◌, ◌*◌, ◌-◌}
use native.Mathlib.Omega.{arith}
use lib.ListN.{length, take, drop, get_or}
use Rattle.walk.specs.Units.{wide}
use Rattle.plan.specs.Places.{over_to}
use Rattle.plan.specs.Plan.{spending_of}
use Rattle.plan.specs.Tables.{portion_of}
use Rattle.bucket_test.specs.Words.{part_at}
use Rattle.bucket_test.specs.Turn.{no_record, record_turn}
use Rattle.plan.proofs.AcceptedLaws.{accepted}
use Rattle.plan.proofs.SpendingLaws.{spent_is, may_spend}
use Rattle.bucket_test.proofs.TurningLaws.{record_now, record_put, part_length, words_none, part_now_lem, part_put, may_turn, same_record, same_part}
use borrow.Author.Rules.{rules}
use Rattle.bucket_test.proofs.turning.turn_all.Invariants.{part_of}
use Rattle.bucket_test.proofs.turning.turn_all.Goals.{After-portion_at-portion, After-spending_at-e}
use Rattle.bucket_test.proofs.turning.turn_all.Goals as goal

pub portion_at-portion-requires : goal.portion_at-portion-requires
portion_at-portion-requires c = ((accepted c.args.p.now).0 c.requires.0).points_sound.few

pub loop-i-init : goal.loop-i-init
unfolding over_to wide
loop-i-init c =
    let a = c.args in (
      omega arith,
      ((accepted a.p.now).0 c.requires.0).count_range.1,
      c.requires.1,
      refl,
      refl,
      words_none (part_of a.p.now a.records a.words.now a.n a.ones) a.words.now,
    )

-- the portion that the loop spends by
portion : (c : After-portion_at-portion)
    → let a = c.args in c.portion_at-portion.result ≡ portion_of a.p.now a.n
portion c = c.portion_at-portion.ensures

pub spending_at-e-requires : goal.spending_at-e-requires
spending_at-e-requires c =
    may_spend c.args.p.now ((accepted c.args.p.now).0 c.requires.0) c.loop-i.i c.args.n c.loop-i-test.true c.requires.2 _ (portion (goal.at.spending_at-e-requires c).After-portion_at-portion)

now-at : (c : After-spending_at-e)
    → let a = c.args in
    let l = c.loop-i in
    (get_or l.next l.i no_record ≡ get_or a.records l.i no_record)
    × (take (769 * l.i + 769 - 769 * l.i) (drop (769 * l.i) l.words) ≡ part_at l.i a.words.now)
now-at c =
    let a = c.args in
    let l = c.loop-i in (
      record_now (record_turn a.p.now a.words.now a.n a.ones) a.records l.next l.i l.invariant.4 no_record,
      part_now_lem (part_of a.p.now a.records a.words.now a.n a.ones) a.words.now l.i (omega arith) l.words l.invariant.3 l.invariant.5,
    )

spent-at : (c : After-spending_at-e) → let a = c.args in c.spending_at-e.result ≡ spending_of a.p.now c.loop-i.i a.n
spent-at c = let a = c.args in spent_is a.p.now c.loop-i.i a.n _ _ (c.portion_at-portion.ensures) c.spending_at-e.ensures

pub turn-requires : goal.turn-requires
turn-requires c =
    let here = (goal.at.turn-requires c).After-spending_at-e in
    let k = now-at here in
    let i = c.loop-i.i in
    let l = c.loop-i-test.true in (
      may_turn _ c.args.n c.args.ones (spent-at here) k.0 k.1 (c.requires.3 i l),
      ap length k.1 ∙ part_length c.args.words.now c.args.p.now.count i c.requires.1 l,
    )

pub loop-i-preserved : goal.loop-i-preserved
loop-i-preserved c =
    let here = (goal.at.loop-i-preserved c).After-spending_at-e in
    let a = c.args in
    let l = c.loop-i in
    let k = now-at here in
    let e = spent-at here in
    let done = c.turn.ensures in (
      omega arith,
      l.invariant.1,
      l.invariant.2,
      search rules,
      record_put (record_turn a.p.now a.words.now a.n a.ones) a.records l.next l.i l.invariant.4 no_record _
          (same_record _ a.n a.ones e k.0 k.1 done.0),
      part_put (part_of a.p.now a.records a.words.now a.n a.ones) a.words.now l.i (omega arith) l.words l.invariant.3 l.invariant.5 _
          (same_part _ a.n a.ones e k.0 k.1 done.1),
    )
