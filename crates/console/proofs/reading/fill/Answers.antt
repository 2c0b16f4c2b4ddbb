-- Behind the bytes of the reads before stand those of this one.
use mathlib.Core.Path.{◌≡◌, ap, ◌∙◌}
use mathlib.Core.List.{List, ◌++◌}
use Prim.Native.Nat.{ℕ, ◌+◌, ◌≤◌}
use lib.ListN.{length, take}
use lib.Seq.{length-take-le}
use Rattle.std.proofs.Math.Seq.{take-append-add}
use Rattle.std.proofs.lemmas.List.{take-append-le}
use Rattle.std.proofs.KnownBytes.{Consumes-trans}
use borrow.Author.Rules.{rules}
use Rattle.console.proofs.reading.fill.Goals as goal

both : (done n : ℕ) (before read rest : List ℕ) → done ≤ length before → n ≤ length read
    → take (done + n) (take done before ++ (read ++ rest)) ≡ take done before ++ take n read
both done n before read rest h k =
    rw (length-take-le done before h) at (take-append-add (take done before) (read ++ rest) n)
    ∙ ap (λ (t : List ℕ). take done before ++ t) (take-append-le n read rest k)

pub loop-done-preserved : goal.loop-done-preserved
loop-done-preserved g c =
    let l = c.loop-done in
    let r = c.read_some-n in (
      search rules,
      rw (both l.done r.result l.buf r.new.buf _ l.invariant.0 r.ensures.prefix_len.0)
          (Consumes-trans _ _ _ _ _ l.invariant.1 r.ensures.given),
    )
