-- There are at most 769 live counts, so the sum of the live words is exact; the words passed are the row's, also where fewer are lent.
use Rattle.std.proofs.Common.{◌≡◌, ℕ, ◌-◌, ◌≤◌, length, take, min, ap, ◌∙◌, arith}
use Rattle.std.proofs.lemmas.List.{length-take, take_min}
use lib.Seq.{take-length}
use Rattle.walk.specs.Units.{M, wide}
use Rattle.walk.specs.Record.{first_above, row_of}
use Rattle.walk.specs.Soundness.{words_sound}
use Rattle.walk.proofs.soundness.words_sound.Goals as goal

pub returns : goal.returns
unfolding words_sound row_of M
returns c =
    let p = c.args.part.now in
    let k : ℕ = c.args.w.upper - first_above c.args.w.lower in
    let words = take c.min-words.result p in
    let is : c.min-words.result ≡ min k (length p) = omega arith in
    let same : take (length words) words ≡ take k p = take-length words ∙ ap (λ (i : ℕ). take i p) is ∙ take_min k p in
    let few : length words ≤ wide = omega (arith, length-take c.min-words.result p, c.requires.2) in
    rw (← same) (c.masses_sound.ensures words (length words) few c.weigh.ensures)
