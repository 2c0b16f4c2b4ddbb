-- The numbers first; then by cases on the mark.
use mathlib.Core.Path.{◌≡◌, sym, ◌∙◌}
use mathlib.Core.Bool.{true}
use mathlib.Core.Logic.{⊎_elim}
use Prim.Native.Nat.{◌+◌, ◌*◌, ◌≤◌}
use lib.ListN.{length}
use native.Mathlib.Omega.{arith}
use borrow.Author.Tests.{not-true, not-false}
use Rattle.walk.specs.Units.{wide}
use Rattle.bucket_test.specs.Turn.{numbers_sound}
use Rattle.bucket_test.proofs.DrawingLaws.{numbers_fail}
use Rattle.saved_test.specs.Form.{mass_size}
use Rattle.saved_test.proofs.ReadingLaws.{masses_decide}
use Rattle.saved_test.proofs.reading.record_sound_in.Goals.{After-live_count, Else-not-numbers_sound}
use Rattle.walk.specs.Units.{M}
use Rattle.saved_test.proofs.reading.record_sound_in.Goals as goal

pub returns-then-not-numbers_sound : goal.returns-then-not-numbers_sound
returns-then-not-numbers_sound c =
    let a = c.args in
    numbers_fail a.e a.n a.ones a.t.mark a.t _ (sym c.numbers_sound.ensures ∙ not-true _ c.if-not-numbers_sound.true-raw)

passed : (c : Else-not-numbers_sound) → let a = c.args in numbers_sound a.e a.n a.ones a.t.mark a.t ≡ true
passed c = sym c.numbers_sound.ensures ∙ not-false _ c.if-not-numbers_sound.false-raw

module _ (c : After-live_count) where
  there : (c.live_count.result ≤ wide) × (c.args.at + mass_size * c.live_count.result ≤ length c.args.bytes.now)
  there = let n = c.live_count.ensures.0 in (omega (arith, n, c.requires.0), omega (arith, n, c.requires.1))

pub weigh_in-requires : goal.weigh_in-requires
weigh_in-requires c = there (goal.at.weigh_in-requires c).After-live_count

pub returns-in-Open : goal.returns-in-Open
unfolding M
returns-in-Open c =
    let mark = c.in-Open.is in
    let a = c.args in
    rw mark
    (masses_decide a.e a.n a.ones a.t (rw mark at (passed (goal.at.returns-in-Open c).Else-not-numbers_sound)) _ (rw mark at c.live_count.ensures.0) _ _ _
    (c.masses_sound.ensures _ _ (there (goal.at.returns-in-Open c).After-live_count).0 c.weigh_in.ensures))

pub returns-in-Above : goal.returns-in-Above
returns-in-Above c =
    let passes = passed (goal.at.returns-in-Above c).Else-not-numbers_sound in
    ⊎_elim (λ is. rw is.1 (sym (rw is.1 at passes))) (λ is. rw is.1 (sym (rw is.1 at passes))) c.in-Above.is
