-- Where the bits tell that each is small, the sum is theirs.
use Rattle.std.proofs.Common.{◌≡◌, true, take, sym, ◌∙◌, arith, le-ltb}
use Rattle.walk.specs.Numbers.{all_up_to}
use Rattle.walk.specs.Units.{mass_limit}
use Rattle.walk.proofs.Tests.{le?_complete, le?_fails}
use Rattle.walk.proofs.soundness.masses_sound.Goals as goal

pub returns-then-w-lt-TWICE_LIMIT : goal.returns-then-w-lt-TWICE_LIMIT
unfolding mass_limit
returns-then-w-lt-TWICE_LIMIT c =
    λ masses count few h.
    let fit : all_up_to mass_limit (take count masses) ≡ true = sym h.fits ∙ le?_complete _ _ (omega arith) in
    rw (fit, ← (h.sums few fit)) c.is_whole.ensures

pub returns-else-w-lt-TWICE_LIMIT : goal.returns-else-w-lt-TWICE_LIMIT
unfolding mass_limit
returns-else-w-lt-TWICE_LIMIT c = λ masses count few h. rw (sym h.fits ∙ le?_fails _ _ (omega arith), le-ltb c.args.w.bits 17592186044416 (omega arith))
