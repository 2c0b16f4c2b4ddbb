-- What nothing refuses may have its turns, and n and S rise without overflow.
use Prim.Native.Nat.{◌≤◌, ◌<◌}
use native.Mathlib.Numerals.{add-one}
use native.Mathlib.Omega.{arith}
use Rattle.walk.specs.Units.{horizon_limit}
use Rattle.bucket_test.proofs.DrawingLaws.{Drawable, drawable, ones_fit, early, all_may_turn, next_state_lem, next_words_lem}
use Rattle.bucket_test.proofs.drawing.take_one.Goals.{Start}
use Rattle.bucket_test.proofs.drawing.take_one.Goals as goal

may : (c : Start) → let a = c.args in Drawable a.p.now a.s.now a.words.now a.d
may c = drawable _ _ _ _ c.requires

-- S is at most n, and n below the limit
room : (c : Start) → (c.args.s.now.ones ≤ c.args.s.now.n) × (c.args.s.now.n < horizon_limit)
room c =
    let m = may c in
    (ones_fit _ _ _ m.good m.long m.going m.sound, early _ _ _ m.good m.long m.going m.sound)

pub overflow_add-n : goal.overflow_add-n
unfolding horizon_limit
overflow_add-n c = omega (arith, room (goal.at.overflow_add-n c).Start)

pub overflow_add-ones : goal.overflow_add-ones
unfolding horizon_limit
overflow_add-ones c =
    let m = may (goal.at.overflow_add-ones c).Start in
    omega (arith, room (goal.at.overflow_add-ones c).Start, m.bit)

pub turn_all-records-requires : goal.turn_all-records-requires
turn_all-records-requires c =
    let m = may (goal.at.turn_all-records-requires c).Start in
    (m.good, m.long, omega (arith, room (goal.at.turn_all-records-requires c).Start), rw (add-one c.args.s.now.n) (all_may_turn _ _ _ m.good m.long m.going m.sound))

pub returns : goal.returns
returns c =
    let e = c.turn_all-records.ensures in
    let n = add-one c.args.s.now.n in
    rw (← c.from.ensures) (next_state_lem _ _ _ _ _ n _ e.0, next_words_lem _ _ _ _ _ n _ e.1)
