-- The entries before place n are put, and the numbers from there on are left.
use mathlib.Core.Path.{◌≡◌, refl, sym, ap, ◌∙◌}
use mathlib.Core.List.{List, ◌∷◌}
use Prim.Native.Nat.{ℕ, ◌+◌, ◌*◌, ◌<◌}
use native.Mathlib.Numerals.{add-one}
use native.Mathlib.Omega.{arith}
use lib.ListN.{length, drop, get_or, length-drop}
use lib.Seq.{drop-cons}
use borrow.Author.Rules.{rules}
use Rattle.std.specs.Iterator.Adapters.{enumerate_count}
use Rattle.little.specs.Little.{put_at}
use Rattle.little.proofs.EntryLaws.{put_start, put_next}
use Rattle.stored_plan.specs.Form.{pair}
use Rattle.stored_plan.proofs.FormLaws.{pair-length}
use Rattle.stored_plan.proofs.writing.write_entries.Goals as goal

-- of the numbers from place n on, the first is that at place n, and the others are left
taken : (xs rest rest' : List ℕ) (n x : ℕ) → rest ≡ drop n xs → rest ≡ x ∷ rest' → (n < length xs) × (get_or xs n 0 ≡ x) × (rest' ≡ drop (n + 1) xs)
taken xs rest rest' n x e f =
    let g : x ∷ rest' ≡ drop n xs = sym f ∙ e in
    let h : n < length xs = omega (arith, length-drop n xs, ap length g) in
    let d = drop-cons xs n 0 h in
    (h, cc, rw (add-one n) (cc))

pub loop-i-init : goal.loop-i-init
loop-i-init c =
    let a = c.args in
    let begun = c.into_iter-i-iterator.ensures.into_iter_gives in
    let e = c.enumerate-i-items.ensures in
    rw (begun, e.source, e.count, c.zip.ensures.first, c.iter.ensures.rest)
    (refl, search rules, put_start (pair 4 a.width a.first.now a.second.now) (4 + a.width) (pair-length 4 a.width a.first.now a.second.now) a.at (length a.first.now) a.bytes.now)

pub loop-i-preserved : goal.loop-i-preserved
loop-i-preserved c =
    let a = c.args in
    let l = c.loop-i in
    let n = enumerate_count l.i-iterator in
    let s = c.in-Some.ensures.steps in
    let v = taken a.first.now _ _ _ _ l.invariant.0 s.0.0 in
    let w = taken a.second.now _ _ _ _ l.invariant.1 s.0.1 in
    let entry = pair 4 a.width a.first.now a.second.now in
    let put : c.write_two.new.bytes ≡ put_at (a.at + (4 + a.width) * n) (entry n) l.bytes =
    rw (v.1, w.1, ← s.1) c.write_two.ensures in
    let next = put_next entry (4 + a.width) (pair-length 4 a.width a.first.now a.second.now) a.at (length a.first.now) a.bytes.now n l.bytes _ l.invariant.2 in
    rw s.2 (v.2, w.2, next v.0 (search rules) put (omega arith))
