-- What is left of the run is what the run is.
use mathlib.Core.Path.{refl, sym, ◌∙◌}
use native.Mathlib.Omega.{arith}
use Rattle.console.proofs.Runs.{run_end, run_ended, run_on}
use borrow.Author.Rules.{rules}
use Rattle.console.proofs.running.run.Goals as goal

pub loop-bit-init : goal.loop-bit-init
loop-bit-init c = (omega arith, refl, refl)

pub returns-then-not-answer_open : goal.returns-then-not-answer_open
returns-then-not-answer_open c =
    run_ended _ _ _ c.args.draws.now c.loop-bit.bit-index _ c.loop-bit.invariant.2 (sym c.answer_open.ensures ∙ c.if-not-answer_open.true)

pub loop-bit-preserved : goal.loop-bit-preserved
loop-bit-preserved c =
    let e = c.draw-drawn.ensures in (
      omega arith,
      search rules,
      run_on _ _ _ _ _ _ c.loop-bit.invariant.2 c.loop-bit-test.true
          (sym c.answer_open.ensures ∙ c.if-not-answer_open.false) _ _ e.0 e.1,
    )

pub returns : goal.returns
returns c = run_end _ _ _ _ _ _ c.loop-bit.invariant.2 c.loop-bit-test.false
