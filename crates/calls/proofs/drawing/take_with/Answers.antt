-- 12, else the turns, then the header.
use mathlib.Core.Path.{◌≡◌}
use mathlib.Core.Bool.{true}
use Prim.Native.Nat.{◌+◌}
use lib.ListN.{length}
use native.Mathlib.Omega.{arith}
use Rattle.walk.specs.Numbers.{le?}
use Rattle.walk.specs.Units.{wide, horizon_limit}
use Rattle.walk.proofs.Tests.{le?_sound}
use Rattle.refusals.proofs.RefusalLaws.{kept, broken}
use Rattle.std.proofs.lemmas.Result.{err_from_is_err_and}
use Rattle.little.specs.Little.{field}
use Rattle.saved_test.specs.Form.{draws_field, ones_field, form_size, record_offset}
use Rattle.calls.specs.Inner.{new_size, Turns}
use Rattle.calls.proofs.TurnLaws.{few, new_few}
use Rattle.calls.proofs.Taking.{numbered, risen, ready_turns, took_12, took_form}
use Rattle.calls.proofs.drawing.take_with.Goals.{After-read_u32, In_ok-ensure}
use Rattle.calls.proofs.drawing.take_with.Goals as goal

pub read_u32-n-requires : goal.read_u32-n-requires
read_u32-n-requires c = omega (arith, numbered c.requires.0)

pub overflow_add-n : goal.overflow_add-n
unfolding horizon_limit
overflow_add-n c = omega (arith, (risen c.requires.0).0, c.read_u32-n.ensures.0)

pub read_u32-requires : goal.read_u32-requires
read_u32-requires c = omega (arith, numbered c.requires.0)

pub overflow_add-ones : goal.overflow_add-ones
unfolding horizon_limit
overflow_add-ones c =
    let k = risen c.requires.0 in
    omega (arith, k.0, k.1, k.2, c.read_u32.ensures.0)

-- where n and S are read
module _ (c : After-read_u32) where
  n_is : c.read_u32-n.result + 1 ≡ field 4 draws_field c.args.saved.now + 1
  n_is = omega (arith, c.read_u32-n.ensures.0)

  ones_is : c.read_u32.result + c.args.draw ≡ field 4 ones_field c.args.saved.now + c.args.draw
  ones_is = omega (arith, c.read_u32.ensures.0)

  turns : Turns c.args.p.now (c.read_u32-n.result + 1) (c.read_u32.result + c.args.draw) c.args.saved.now
  turns = ready_turns c.requires.0 n_is ones_is

pub has_room-requires : goal.has_room-requires
has_room-requires c = (turns (goal.at.has_room-requires c).After-read_u32, c.requires.1)

pub returns-in_err-ensure : goal.returns-in_err-ensure
returns-in_err-ensure c =
    let here = (goal.at.returns-in_err-ensure c).After-read_u32 in
    let h = c.has_room.ensures in
    let b = broken h _ _ c.in_err-ensure.ensures in
    let k = err_from_is_err_and c.from_residual.result c.from_residual.ensures.1 in
    rw (k.1, k.2) (took_12 c.requires.0 (n_is here) (ones_is here) _ b.0 _ b.1)

-- where there is room
room : (c : In_ok-ensure) → let a = c.args in
    le? (new_size a.p.now (c.read_u32-n.result + 1) (c.read_u32.result + a.draw) a.saved.now) (length a.lent.now) ≡ true
room c = kept c.has_room.ensures _ c.in_ok-ensure.ensures

pub turn_through-turned-requires : goal.turn_through-turned-requires
turn_through-turned-requires c = (
  turns (goal.at.turn_through-turned-requires c).After-read_u32,
  λ i l. omega (arith, c.requires.1 i l, c.has_room.auto.part),
  le?_sound _ _ (room (goal.at.turn_through-turned-requires c).In_ok-ensure),
)

pub write_header-requires : goal.write_header-requires
unfolding form_size record_offset wide
write_header-requires c =
    let j = turns (goal.at.write_header-requires c).After-read_u32 in
    let fits = le?_sound _ _ (room (goal.at.write_header-requires c).In_ok-ensure) in
    (few j, omega (arith, fits, c.turn_through-turned.auto.lent), omega (arith, c.turn_through-turned.ensures.0, new_few j c.args.p.now.count (omega arith), few j))

pub returns : goal.returns
returns c =
    let here = (goal.at.returns c).After-read_u32 in
    let x = c.turn_through-turned.ensures in
    took_form c.requires.0 (n_is here) (ones_is here) _ (room (goal.at.returns c).In_ok-ensure) _ x.0 _ _ x.2
    c.write_header.ensures _ x.1
