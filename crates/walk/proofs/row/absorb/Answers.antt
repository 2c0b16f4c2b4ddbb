-- The masses so far are absorbed, and fit: `dropped_is` says what it means that the next does not.
use Rattle.std.proofs.Common.{arith}
use Rattle.std.proofs.lemmas.Iterator.{YieldsList}
use Rattle.std.proofs.lemmas.Iterator.Consumers.{YieldsList-at}
use Rattle.std.proofs.lemmas.List.{length_push}
use Rattle.walk.specs.Units.{wide}
use Rattle.walk.proofs.Loops.{sum_push, absorbed_all, absorbed_some}
use Rattle.walk.proofs.row.absorb.Goals.{in-None, in-Some+then-mass-e}
use Rattle.walk.proofs.row.absorb.Goals as goal

pub overflow_add-absorbed-in-loop-mass : goal.overflow_add-absorbed-in-loop-mass
unfolding wide
overflow_add-absorbed-in-loop-mass g c = omega (arith, (c.in-Some.ensures.goes.on c.loop-mass.invariant.ends).2)

pub loop-mass-preserved : goal.loop-mass-preserved
loop-mass-preserved g c =
    let l = c.loop-mass in
    let p = c.in-Some.ensures.goes.on l.invariant.ends in
    record {
      can = p.0;
      ends = p.1;
      few = omega (arith, p.2);
      counted = omega (arith, length_push l.yielded c.in-Some.mass);
      fits = omega arith;
      is = omega (arith, sum_push (λ x. x.now) l.yielded c.in-Some.mass);
    }

pub returns : goal.returns
returns g c = λ xs h.
    let l = c.loop-mass in
    let n = c.next.ensures.steps in
    let v = l.invariant in
    let comes : YieldsList g.I.Iterator.next_gives (λ x. x.now) c.into_iter-mass-iterator.result xs =
    YieldsList-at c.into_iter-mass-iterator.ensures.into_iter_gives (record { runs = h }) in
    elim c.match-next.branch [
      | in-None w ↦ absorbed_all comes l.yielded l.yielded_by n c.args.spent v.counted v.is v.fits w.in-None.is
      | in-Some+then-mass-e w ↦ absorbed_some comes l.yielded l.yielded_by n c.args.spent v.counted v.is v.fits w.in-Some.is w.if-mass-e.true
    ]
