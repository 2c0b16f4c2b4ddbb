-- What was fed, and whether there was anything.
use mathlib.Core.Path.{◌≡◌, sym, ◌∙◌}
use mathlib.Core.Bool.{false, ◌&&◌}
use native.Mathlib.Omega.{arith}
use lib.ListN.{length}
use Rattle.walk.proofs.Tests.{le?_complete, le?_fails}
use Rattle.walk.specs.Numbers.{lt?}
use Rattle.console.specs.Run.{answer_open}
use Rattle.console.proofs.program.take_chunk.Goals.{else-some-via-then-some+else-answer_open, else-some-via-else-some}
use Rattle.console.proofs.program.take_chunk.Goals as goal

pub returns-then-answer_open : goal.returns-then-answer_open
returns-then-answer_open c =
    (c.feed-drawn.ensures.0, rw (le?_complete 1 (length c.args.chunk.now) c.if-some.true) (sym c.if-answer_open.true ∙ c.answer_open.ensures))

pub returns-else-some : goal.returns-else-some
returns-else-some c =
    let n = length c.args.chunk.now in
    let stops : false ≡ (lt? 0 n && answer_open c.feed-drawn.result.answer) = elim c.else-some.branch [
      | else-some-via-then-some+else-answer_open w ↦ rw (le?_complete 1 n w.if-some.true) (sym w.if-answer_open.false ∙ w.answer_open.ensures)
      | else-some-via-else-some w ↦ rw (le?_fails 1 n (omega (arith, w.if-some.false)))
    ] in
    (c.feed-drawn.ensures.0, stops)
