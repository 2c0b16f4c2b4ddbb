-- After some places the interval is that of their thresholds.
use mathlib.Core.Path.{◌≡◌, refl, ap, ◌∙◌}
use Prim.Native.Nat.{ℕ, ◌<◌}
use native.Mathlib.Omega.{arith}
use borrow.Author.Rules.{rules}
use lib.ListN.{length, take, get_or}
use Rattle.std.proofs.lemmas.Slice.Zip.{zip_turn, zip_end}
use Rattle.std.proofs.lemmas.List.{length_push, length-take, get_or-take}
use Rattle.walk.specs.Units.{million}
use Rattle.plan.specs.Places.{largest_to, smallest_to}
use Rattle.bucket_test.specs.Turn.{no_record}
use Rattle.bucket_test.specs.Answers.{low_of, high_of}
use Rattle.bucket_test.proofs.AnsweringLaws.{largest_more, smallest_more}
use Rattle.bucket_test.proofs.answering.interval_of.Invariants.{above_at, at_most_at}
use Rattle.bucket_test.proofs.answering.interval_of.Goals as goal

pub loop-record-init : goal.loop-record-init
unfolding largest_to smallest_to million
loop-record-init c = (refl, refl, omega arith)

pub loop-record-preserved : goal.loop-record-preserved
loop-record-preserved c =
    let k = c.args in
    let l = c.loop-record in
    let n = k.p.now.count in
    let i = length l.yielded in
    let t = zip_turn (take n k.s.now.records) (take n k.p.now.thresholds) l.yielded c.into_iter-record-iterator.result l.record-iterator c.next.new.self c.next.result (cc) (cc) l.yielded_by _ c.in-Some.is c.next.ensures.steps in
    let inside : i < n = omega (arith, t.0, length-take n k.s.now.records) in
    let r : c.in-Some.record.now ≡ get_or k.s.now.records i no_record = t.2 no_record ∙ get_or-take n k.s.now.records i no_record inside in
    let h : c.in-Some.field-0-1.now ≡ get_or k.p.now.thresholds i 0 = t.3 0 ∙ get_or-take n k.p.now.thresholds i 0 inside in
    let e = rw (r, h) at c.narrowed-v.ensures in
    rw (length_push l.yielded (c.in-Some.record, c.in-Some.field-0-1)) (
      e.0 ∙ largest_more i (above_at k.p.now.thresholds k.s.now.records) 0 l.v.low l.invariant.0,
      e.1 ∙ smallest_more i (at_most_at k.p.now.thresholds k.s.now.records) million l.v.high l.invariant.1,
      omega (arith, e.1, l.invariant.2),
    )

pub returns : goal.returns
unfolding low_of high_of
returns c =
    let k = c.args in
    let l = c.loop-record in
    let n = k.p.now.count in
    let t = zip_end (take n k.s.now.records) (take n k.p.now.thresholds) l.yielded c.into_iter-record-iterator.result l.record-iterator c.next.new.self c.next.result (cc) (cc) l.yielded_by c.in-None.is c.next.ensures.steps in
    let a : length k.s.now.records ≡ 10 = search rules in
    let b : length k.p.now.thresholds ≡ 10 = search rules in
    let all : length l.yielded ≡ n = omega (arith, t, a, b, c.requires, length-take n k.s.now.records, length-take n k.p.now.thresholds) in (
      l.invariant.0 ∙ ap (λ (j : ℕ). largest_to j (above_at k.p.now.thresholds k.s.now.records) 0) all,
      l.invariant.1 ∙ ap (λ (j : ℕ). smallest_to j (at_most_at k.p.now.thresholds k.s.now.records) million) all,
    )
