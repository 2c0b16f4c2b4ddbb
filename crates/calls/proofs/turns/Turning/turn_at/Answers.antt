-- The masses are read, then the threshold has its turn.
use mathlib.Core.Path.{◌≡◌, ◌∙◌}
use native.Mathlib.Omega.{arith}
use Rattle.plan.specs.Plan.{spending_of}
use Rattle.plan.proofs.AcceptedLaws.{accepted}
use Rattle.plan.proofs.SpendingLaws.{spent_is, may_spend}
use Rattle.little.specs.Little.{column, filled}
use Rattle.saved_test.specs.Form.{mass_size, live_count}
use Rattle.calls.proofs.TurnLaws.{few, may_read, may_turn, turned}
use Rattle.calls.proofs.turns.Turning.turn_at.Goals.{After-front_in, After-spending_at-e}
use Rattle.calls.proofs.turns.Turning.turn_at.Goals as goal

pub front_in-requires : goal.front_in-requires
front_in-requires c =
    let a = c.args in
    let (j, l, is, here, room) = c.requires in
    rw c.live_count.ensures.0 (may_read j a.i l a.t is a.at here a.part.now room)

-- the part once the masses are read
front-is : (c : After-front_in) → let a = c.args in c.front_in.new.part ≡ filled (live_count a.t) (column mass_size a.at mass_size a.self.now.saved.now) a.part.now
front-is c = c.front_in.ensures ∙ rw c.live_count.ensures.0

pub offset_bounds-self-i : goal.offset_bounds-self-i
offset_bounds-self-i c = record { fits = omega (arith, few c.requires.0, c.requires.1) }

pub bounds-self-i : goal.bounds-self-i
bounds-self-i c = omega (arith, few c.requires.0, c.requires.1)

pub portion_at-requires : goal.portion_at-requires
portion_at-requires c = ((accepted _).0 c.requires.0.judged).points_sound.few

pub spending_at-e-requires : goal.spending_at-e-requires
spending_at-e-requires c =
    let j = c.requires.0 in
    may_spend _ ((accepted _).0 j.judged) c.args.i c.args.self.now.n c.requires.1 j.in_time _ c.portion_at.ensures

-- what may be spent by then
spent : (c : After-spending_at-e) → c.spending_at-e.result ≡ spending_of c.args.self.now.plan.now c.args.i c.args.self.now.n
spent c = spent_is c.args.self.now.plan.now c.args.i c.args.self.now.n _ _ c.portion_at.ensures c.spending_at-e.ensures

pub offset_bounds-self-i-2 : goal.offset_bounds-self-i-2
offset_bounds-self-i-2 c = record { fits = omega (arith, few c.requires.0, c.requires.1) }

pub bounds-self-i-2 : goal.bounds-self-i-2
bounds-self-i-2 c = omega (arith, few c.requires.0, c.requires.1)

pub turn_front-requires : goal.turn_front-requires
turn_front-requires c =
    let a = c.args in
    let (j, l, is, here, room) = c.requires in
    rw (spent (goal.at.turn_front-requires c).After-spending_at-e)
    (may_turn j a.i l a.t is a.at here a.part.now room _ (front-is (goal.at.turn_front-requires c).After-front_in))

pub returns : goal.returns
returns c =
    let a = c.args in
    let (j, l, is, here, room) = c.requires in
    let e = rw (spent (goal.at.returns c).After-spending_at-e) at c.turn_front.ensures in
    turned j a.i l a.t is a.at here a.part.now room _ (front-is (goal.at.returns c).After-front_in) _ _ e.0 e.1
