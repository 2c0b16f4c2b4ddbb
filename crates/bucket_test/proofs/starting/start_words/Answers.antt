-- The first i parts are those of step 0; the others are as they were.
use mathlib.Core.Path.{refl, ◌∙◌}
use native.Mathlib.Omega.{arith}
use Rattle.walk.specs.Units.{wide}
use Rattle.bucket_test.proofs.TurningLaws.{part_length, part_lent, words_none, part_put}
use borrow.Author.Rules.{rules}
use Rattle.bucket_test.proofs.starting.start_words.Invariants.{start_at}
use Rattle.bucket_test.proofs.starting.start_words.Goals as goal

pub loop-i-init : goal.loop-i-init
unfolding wide
loop-i-init c = (omega arith, c.requires.1, refl, words_none start_at c.args.words.now)

pub start_part-requires : goal.start_part-requires
unfolding wide
start_part-requires c =
    let l = c.loop-i in
    rw (part_lent l.i l.words)
    (part_length l.words c.args.count l.i (l.invariant.2 ∙ l.invariant.1) c.loop-i-test.true)

pub loop-i-preserved : goal.loop-i-preserved
loop-i-preserved c =
    let l = c.loop-i in (
      omega arith,
      l.invariant.1,
      search rules,
      part_put start_at _ l.i (omega arith) l.words l.invariant.2 l.invariant.3 _ c.start_part.ensures,
    )
