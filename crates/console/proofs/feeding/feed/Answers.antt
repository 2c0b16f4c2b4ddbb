-- The draws are those that the characters are turned into.
use Rattle.console.proofs.Chunks.{fed}
use Rattle.console.proofs.feeding.feed.Goals as goal

pub returns : goal.returns
returns c =
    let t = c.to_draws-m.ensures.value in
    let e = c.run.ensures in
    (fed _ _ _ _ _ _ _ t.0 t.1 e, rw (← t.0) t.1)
