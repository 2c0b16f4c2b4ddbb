-- Sound boundaries say how many words of an open threshold are live.
use mathlib.Core.Path.{sym, ◌∙◌}
use native.Mathlib.Omega.{arith}
use Rattle.walk.specs.Soundness.{rounded_fits}
use Rattle.walk.proofs.Tests.{and_true}
use Rattle.walk.proofs.SoundnessLaws.{boundaries_say}
use Rattle.bucket_test.proofs.judging.record_sound.Goals as goal

pub words_sound-requires : goal.words_sound-requires
words_sound-requires c =
    let a = c.args in
    let f = rw c.in-Open.is at (sym c.numbers_sound.ensures ∙ c.if-numbers_sound.true) in
    let b = boundaries_say a.e a.n a.ones a.t.walked (and_true (rounded_fits a.n a.t.walked) _ f).1 in
    (b.signed, omega (arith, b.order), b.fits)
