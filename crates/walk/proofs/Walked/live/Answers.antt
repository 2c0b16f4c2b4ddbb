-- The difference of the boundaries, less one, is the number of live counts.
use Rattle.std.proofs.Common.{◌≡◌, suc, ◌-◌, ◌^◌, ◌<◌, pos, ◌-ℤ◌, ap, ◌∙◌, arith, w64, to_z, of_z}
use mir.ValLaws.{to_z-of_z}
use Rattle.walk.specs.Record.{first_above}
use Rattle.walk.proofs.Boundaries.{apart_below}
use Rattle.walk.proofs.Walked.live.Goals.{After-apart}
use Rattle.walk.proofs.Walked.live.Goals as goal

module _ (c : After-apart) where
  apart-is : c.apart.result ≡ pos (suc (c.args.self.now.upper - first_above c.args.self.now.lower))
  apart-is = c.apart.ensures ∙ ap (λ z. pos c.args.self.now.upper -ℤ z) c.requires.0 ∙ apart_below _ _ c.requires.1

  few : suc (c.args.self.now.upper - first_above c.args.self.now.lower) < 2 ^ 63
  few = rw apart-is at c.apart.type_inv

  read : to_z w64 (of_z w64 c.apart.result) ≡ pos (suc (c.args.self.now.upper - first_above c.args.self.now.lower))
  read = to_z-of_z w64 c.apart.result (record { sfits = c.apart.type_inv }) ∙ apart-is

pub overflow_cast-result : goal.overflow_cast-result
overflow_cast-result c = rw (read (goal.at.overflow_cast-result c).After-apart) (tt, record { fits = omega (arith, few (goal.at.overflow_cast-result c).After-apart) })

pub overflow_sub-result : goal.overflow_sub-result
overflow_sub-result c = rw (read (goal.at.overflow_sub-result c).After-apart) (omega arith)

pub returns : goal.returns
returns c = rw (read (goal.at.returns c).After-apart) (omega arith)
