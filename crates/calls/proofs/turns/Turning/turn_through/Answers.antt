-- The turns of the thresholds before place i are taken: their masses stand behind the place of the records, and their records behind the header's.
use mathlib.Core.Path.{◌≡◌, refl, sym, ◌∙◌}
use Prim.Native.Nat.{◌+◌, ◌*◌, ◌≤◌, ◌<◌}
use native.Mathlib.Omega.{arith}
use lib.ListN.{length}
use Rattle.walk.specs.Units.{million, wide}
use Rattle.plan.specs.Plan.{count_limit}
use Rattle.plan.specs.Places.{join_to}
use Rattle.little.proofs.Putting.{put_none}
use Rattle.saved_test.specs.Form.{record_size, mass_size, header_size, record_offset, form_size, live_count, masses_to}
use Rattle.saved_test.specs.Reading.{mass_offset}
use Rattle.saved_test.proofs.ReadingLaws.{offset_first}
use Rattle.calls.proofs.TurnLaws.{seen_none, seen_next, few, offset, old_next, old_small, new_few, new_room, new_live, new_masses_lem, new_inside, entries_next, entries_last}
use Rattle.calls.proofs.turns.Turning.turn_through.Goals.{In-loop-i, After-record_in-t, After-live_count-live}
use Rattle.calls.proofs.turns.Turning.turn_through.Goals as goal

pub loop-i-init : goal.loop-i-init
unfolding join_to masses_to million
loop-i-init c =
    let a = c.args in
    record {
      inside = omega arith;
      part_size = refl;
      lent_size = refl;
      at_is = offset_first a.self.now.saved.now a.self.now.plan.now.count;
      masses_are = refl;
      seen = seen_none a.self.now.plan.now _ _ c.unseen-standing.ensures;
      high = rw c.unseen-standing.ensures (omega arith);
      lent_is = rw (put_none (record_offset a.self.now.plan.now.count) a.lent.now) (sym (put_none header_size a.lent.now));
    }

pub record_in-t-requires : goal.record_in-t-requires
unfolding form_size record_offset
record_in-t-requires c = omega (arith, c.requires.0.form.sized, c.loop-i-test.true)

pub turn_at-next-requires : goal.turn_at-next-requires
unfolding record_offset
turn_at-next-requires c =
    let l = c.loop-i in
    let is = c.record_in-t.ensures in
    (c.requires.0, c.loop-i-test.true, is, l.invariant.at_is, rw is (omega (arith, c.requires.1 l.i c.loop-i-test.true, l.invariant.part_size)))

-- ---- the threshold at place i

place : (c : In-loop-i) → c.loop-i.i < count_limit
place c = omega (arith, few c.requires.0, c.loop-i-test.true)

-- after its turn
module _ (c : After-live_count-live) where
  small : (c.live_count-live.result ≤ wide) × (c.loop-i.masses ≤ wide * c.loop-i.i) × (c.live_count-live.result ≤ length c.turn_at-next.new.part)
  small =
      let l = c.loop-i in
      let r = c.turn_at-next.ensures.0 in
      let live = c.live_count-live.ensures.0 in (
        new_live c.requires.0 l.i c.loop-i-test.true _ r _ live,
        omega (arith, l.invariant.masses_are, new_few c.requires.0 l.i l.invariant.inside),
        omega (arith, new_room c.requires.0 l.i c.loop-i-test.true _ r _ live, c.requires.1 l.i c.loop-i-test.true, l.invariant.part_size, c.turn_at-next.auto.part),
      )

  to_is : header_size + record_size * c.args.self.now.plan.now.count + mass_size * c.loop-i.masses ≡ offset c.requires.0 c.loop-i.i
  unfolding record_offset
  to_is = omega (arith, c.loop-i.invariant.masses_are)

pub overflow_mul-to : goal.overflow_mul-to
unfolding wide
overflow_mul-to c = omega (arith, (small (goal.at.overflow_mul-to c).After-live_count-live).1, place (goal.at.overflow_mul-to c).In-loop-i)

pub overflow_add-to : goal.overflow_add-to
unfolding wide
overflow_add-to c = omega (arith, (small (goal.at.overflow_add-to c).After-live_count-live).1, place (goal.at.overflow_add-to c).In-loop-i, few c.requires.0)

pub write_part-requires : goal.write_part-requires
write_part-requires c =
    let here = (goal.at.write_part-requires c).After-live_count-live in
    let l = c.loop-i in (
      (small here).2,
      omega (arith, new_inside c.requires.0 l.i c.loop-i-test.true _ c.turn_at-next.ensures.0 _ c.live_count-live.ensures.0 _ (to_is here), c.requires.2, l.invariant.lent_size),
    )

pub write_record-requires : goal.write_record-requires
unfolding form_size record_offset
write_record-requires c = omega (arith, c.requires.2, c.loop-i.invariant.lent_size, c.write_part.auto.bytes, c.loop-i-test.true)

pub bounds-self-i : goal.bounds-self-i
bounds-self-i c = place (goal.at.bounds-self-i c).In-loop-i

pub overflow_add-masses : goal.overflow_add-masses
unfolding wide
overflow_add-masses c = let b = small (goal.at.overflow_add-masses c).After-live_count-live in omega (arith, b.0, b.1, place (goal.at.overflow_add-masses c).In-loop-i)

-- where the next old masses stand
old : (c : After-record_in-t) → let t = c.record_in-t.result in
    (c.loop-i.at + mass_size * live_count t ≤ length c.args.self.now.saved.now)
    × (c.loop-i.at + mass_size * live_count t ≡ mass_offset c.args.self.now.saved.now c.args.self.now.plan.now.count (c.loop-i.i + 1))
unfolding record_offset
old c = old_next c.requires.0 c.loop-i.i c.loop-i-test.true _ c.record_in-t.ensures c.loop-i.at c.loop-i.invariant.at_is

pub overflow_add-at : goal.overflow_add-at
overflow_add-at c = omega (arith, (old (goal.at.overflow_add-at c).After-record_in-t).0, old_small c.requires.0, c.live_count.ensures.0)

pub loop-i-preserved : goal.loop-i-preserved
loop-i-preserved c =
    let here = (goal.at.loop-i-preserved c).After-live_count-live in
    let j = c.requires.0 in
    let l = c.loop-i in
    let r = c.turn_at-next.ensures in
    let e = c.seen-standing.ensures in
    record {
      inside = omega (arith, c.loop-i-test.true);
      part_size = omega (arith, l.invariant.part_size, c.turn_at-next.auto.part);
      lent_size = omega (arith, l.invariant.lent_size, c.write_part.auto.bytes, c.write_record.auto.bytes);
      at_is = rw c.live_count.ensures.0 (old (goal.at.loop-i-preserved c).After-record_in-t).1;
      masses_are = rw l.invariant.masses_are (new_masses_lem j l.i c.loop-i-test.true _ r.0 _ c.live_count-live.ensures.0);
      seen = seen_next _ _ l.i l.standing _ _ r.0 l.invariant.seen e.0 e.1 e.2;
      high = omega (arith, e.1, l.invariant.high);
      lent_is =
          entries_next j l.i c.loop-i-test.true _ r.0 _ c.live_count-live.ensures.0 _ (to_is here) _ r.1 c.args.lent.now l.lent _ l.invariant.lent_is
          (c.write_record.ensures ∙ rw c.write_part.ensures) c.requires.2;
    }

pub returns : goal.returns
unfolding form_size
returns c =
    let l = c.loop-i in
    let e : l.i ≡ c.args.self.now.plan.now.count = omega (arith, l.invariant.inside, c.loop-i-test.false) in
    (rw e at l.invariant.masses_are, rw e at l.invariant.seen, entries_last c.requires.0 c.args.lent.now l.lent (rw e at l.invariant.lent_is) (omega (arith, c.requires.2)))
