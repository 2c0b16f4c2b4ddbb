-- A beginning and a draw, in words.
use mathlib.Core.Path.{ap}
use Prim.Native.Nat.{ℕ, ◌+◌}
use Rattle.counting.specs.Run.{begun}
use Rattle.counting.specs.OneCall.{Begins, Draws, OneCallTheorem}
use Rattle.counting.specs.declared.Run.{Run}
use Rattle.counting.specs.declared.Drawn.{Drawn}
use Rattle.counting.proofs.JudgingLaws.{fits, unfit, small, large, over-holds, over_fails, sound_fails, sound_holds, answer_says, drawn_13, drawn_9, drawn_10, drawn_11, drawn_0}

begins : (h n : ℕ) → Begins h n
unfolding begun
begins h n = record { by_13 = λ never. rw (unfit h n never); else_open = λ ok. rw (fits h n ok) }

draws : (r : Run) (d : ℕ) → Draws r d
draws r d = record {
  by_13 = λ never. drawn_13 r d (unfit _ _ never);
  by_9 = λ ok never. drawn_9 r d (fits _ _ ok) (large d never);
  by_10 = λ ok b over. drawn_10 r d (fits _ _ ok) (small d b) (over-holds r over);
  by_11 = λ ok b going spoiled. drawn_11 r d (fits _ _ ok) (small d b) (over_fails r going) (sound_fails r spoiled);
  else_taken = λ ok b going sound.
      let e = drawn_0 r d (fits _ _ ok) (small d b) (over_fails r going) (sound_holds r sound) in
      (ap (λ (o : Drawn). o.run) e, rw e (answer_says r.stop r.size (r.taken + 1) (r.ones + d)));
}

pub one_call : OneCallTheorem
one_call = record { begins = begins; draws = draws }
