-- What the line asks and gives is `MassLineTheorem`; the new mass is more than what reaches the count just where it was rounded.
use Rattle.std.proofs.Common.{◌*◌, ◌∙◌, arith}
use Rattle.walk.specs.Numbers.{le?, lt?}
use Rattle.walk.specs.Units.{million}
use Rattle.walk.specs.Mass.{reaching}
use Rattle.walk.specs.MassLine.{word_end, almost_one, mass_line, LineFacts}
use Rattle.walk.proofs.Tests.{byte_only}
use Rattle.walk.proofs.Rounding.{mass_line_lem}
use Rattle.walk.proofs.mass.mass_up.Goals.{Start}
use Rattle.walk.proofs.mass.mass_up.Goals as goal

line : (c : Start) → LineFacts c.args.a c.args.stay c.args.come
line c = mass_line_lem c.args.a c.args.stay c.args.come c.requires.0 c.requires.1 c.requires.2

pub overflow_sub-sum : goal.overflow_sub-sum
unfolding million
overflow_sub-sum c = omega arith

pub overflow_mul-sum : goal.overflow_mul-sum
unfolding million word_end
overflow_mul-sum c = omega (arith, (line (goal.at.overflow_mul-sum c).Start).stay_fits)

pub overflow_mul-sum-2 : goal.overflow_mul-sum-2
unfolding word_end
overflow_mul-sum-2 c = omega (arith, (line (goal.at.overflow_mul-sum-2 c).Start).come_fits)

pub overflow_add-sum : goal.overflow_add-sum
unfolding million word_end
overflow_add-sum c = omega (arith, (line (goal.at.overflow_add-sum c).Start).sum_fits)

pub overflow_add-mass : goal.overflow_add-mass
unfolding million word_end almost_one
overflow_add-mass c = omega (arith, (line (goal.at.overflow_add-mass c).Start).sum_fits)

pub overflow_mul-rounding : goal.overflow_mul-rounding
unfolding million word_end almost_one
overflow_mul-rounding c = omega (arith, (line (goal.at.overflow_mul-rounding c).Start).units_fit)

pub returns : goal.returns
unfolding le? million almost_one reaching
returns c =
    let a = c.args in
    let more = lt? (reaching a.a a.stay a.come) (mass_line a.a a.stay a.come * million) in
    (omega (arith, (line (goal.at.returns c).Start).same), byte_only more ∙ (line (goal.at.returns c).Start).tells)
