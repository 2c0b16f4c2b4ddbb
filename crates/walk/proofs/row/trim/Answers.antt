-- Both sides absorb cells of the same row, so that the boundaries do not meet (`places`), and what is moved lies among the cells.
use Rattle.std.proofs.Common.{◌≡◌, ℕ, ◌+◌, ◌-◌, ◌<◌, ◌≤◌, List, length, reverse, take, drop, arith, rules, take-append-drop, length-take-le}
use Rattle.std.proofs.lemmas.Iterator.{YieldsList-from_slice}
use Rattle.std.proofs.lemmas.Iterator.Adapters.{YieldsList-from_rev_slice}
use Rattle.walk.specs.Numbers.{sum}
use Rattle.walk.specs.Row.{kept, dropped}
use Rattle.walk.proofs.Loops.{kept_back}
use Rattle.walk.proofs.Parts.{places}
use Rattle.walk.proofs.row.trim.Goals.{After-absorb-bottom}
use Rattle.walk.proofs.row.trim.Goals as goal

-- the limit e, and the first m cells, however they are written
limited : {x e n : ℕ} (s : ℕ) (xs : List ℕ) → n ≡ dropped x s xs → x ≡ e → n ≡ dropped e s xs
limited s xs h same = rw same at h

module _ (c : After-absorb-bottom) where
  abbrev cs : List ℕ
  cs = take c.args.m c.args.part.now

  size : length cs ≡ c.args.m
  size = length-take-le c.args.m c.args.part.now (omega arith)

  bottom : (c.absorb-bottom.result.count ≡ dropped c.args.e c.args.under cs)
      × (c.absorb-bottom.result.spent ≡ c.args.under + sum (take c.absorb-bottom.result.count cs))
  bottom = let b = c.absorb-bottom.ensures cs (YieldsList-from_slice cs (cc)).runs in (limited c.args.under cs b.0 (omega arith), b.1)

  top : let hi = c.args.m - c.absorb-top.result.count in
      (c.absorb-top.result.count ≤ c.args.m) × (hi ≡ kept c.args.e c.args.over cs)
      × (c.absorb-top.result.spent ≡ c.args.over + sum (drop hi cs))
  top =
      let t = c.absorb-top.ensures (reverse cs) (YieldsList-from_rev_slice cs (cc)).runs in
      let k = rw size at (kept_back c.args.e c.args.over c.absorb-top.result.count cs (omega arith) t.0) in
      (k.0, k.1, omega (arith, t.1, k.2))

  ordered : c.absorb-bottom.result.count < c.args.m - c.absorb-top.result.count
  ordered = (places c.args.e c.args.over c.args.under cs (omega arith) (omega arith) (omega arith) _ _ top.1 bottom.0).0

pub overflow_sub-hi : goal.overflow_sub-hi
overflow_sub-hi c = (top (goal.at.overflow_sub-hi c).After-absorb-bottom).0

pub copy_within-requires-clause-start_le_end : goal.copy_within-requires-clause-start_le_end
copy_within-requires-clause-start_le_end c =
    omega (arith, ordered (goal.at.copy_within-requires-clause-start_le_end c).After-absorb-bottom)

pub returns-then-lo-gt0 : goal.returns-then-lo-gt0
returns-then-lo-gt0 c =
    let t = top (goal.at.returns-then-lo-gt0 c).After-absorb-bottom in
    let b = bottom (goal.at.returns-then-lo-gt0 c).After-absorb-bottom in
    (t.1, b.0, t.2, b.1, search rules)

pub returns-else-lo-gt0 : goal.returns-else-lo-gt0
returns-else-lo-gt0 c =
    let t = top (goal.at.returns-else-lo-gt0 c).After-absorb-bottom in
    let b = bottom (goal.at.returns-else-lo-gt0 c).After-absorb-bottom in
    let stays : c.absorb-bottom.result.count ≡ 0 = omega arith in
    (t.1, b.0, t.2, b.1, rw (stays, take-append-drop))
