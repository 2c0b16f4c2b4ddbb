-- The longest form fits, whatever the draw leaves (specs/Room).
use mathlib.Core.Path.{◌≡◌, refl}
use mathlib.Core.Bool.{true}
use mathlib.Core.List.{List}
use Prim.Native.Nat.{ℕ, ◌≤◌}
use native.Mathlib.Omega.{arith}
use lib.ListN.{length}
use Rattle.walk.proofs.Tests.{le?_complete}
use Rattle.plan.specs.Plan.{plan_refusal}
use Rattle.plan.specs.declared.Plan.{Plan}
use Rattle.plan.proofs.AcceptedLaws.{accepted}
use Rattle.bucket_test.specs.Draw.{draw_refusal, start_state, next_state}
use Rattle.bucket_test.proofs.DrawingLaws.{drawn_by_lem}
use Rattle.stored_plan.specs.Reading.{decoded}
use Rattle.saved_test.specs.Form.{form_limit, saved_size}
use Rattle.saved_test.specs.Reading.{state_in, words_in, form_fits}
use Rattle.calls.specs.Calls.{called_begin, called_draw}
use Rattle.calls.specs.Room.{RoomTheorem}
use Rattle.calls.proofs.PlanRead.{plan-read}
use Rattle.calls.proofs.CallLaws.{rule_large}
use Rattle.calls.proofs.BeginLaws.{start_small, begun_is}
use Rattle.calls.proofs.Taking.{next_small}

module _ (planBytes lent : List ℕ) (long : form_limit ≤ length lent) (read : (decoded planBytes).refusal ≡ 0) where
  abbrev p : Plan
  p = (decoded planBytes).plan

  good : plan_refusal p ≡ 0
  good = (accepted p).1 (plan-read planBytes read)

  begins : 100 ≤ (called_begin planBytes lent).number
  unfolding called_begin
  begins =
      let fits = le?_complete (saved_size p start_state) (length lent) (omega (arith, start_small p good)) in
      rw (read, begun_is p good, fits) (rule_large p start_state)

  draws : (saved : List ℕ) (d : ℕ) → form_fits p saved ≡ true → draw_refusal p (state_in p saved) (words_in p saved) d ≡ 0
      → 100 ≤ (called_draw planBytes saved d lent).number
  unfolding called_draw
  draws saved d form none =
      let s = state_in p saved in
      let ws = words_in p saved in
      let small = next_small (record { form = form; unrefused = none }) refl refl in
      let fits = le?_complete (saved_size p (next_state p s ws d)) (length lent) (omega (arith, small)) in
      rw (read, form, none, drawn_by_lem p s ws d 0 none, fits) (rule_large p (next_state p s ws d))

pub room_holds : RoomTheorem
room_holds planBytes lent long read = (begins planBytes lent long read, draws planBytes lent long read)
