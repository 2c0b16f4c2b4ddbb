-- Bytes put behind a text, and how many digits a number has.
use mathlib.Core.Path.{◌≡◌, refl, sym, ap, ◌∙◌}
use mathlib.Core.Bool.{Bool, true, false}
use mathlib.Core.List.{List, ◌++◌, append_assoc}
use Prim.Native.Nat.{ℕ, suc, ◌+◌, ◌-◌, ◌^◌, ◌≤◌, ◌<◌}
use native.Mathlib.Nat.{pow-le-pow_right}
use native.Mathlib.Omega.{arith}
use lib.ListN.{length, take, drop, length-append}
use lib.Seq.{take-length, length-take-le, paste}
use Rattle.io.specs.Digits.{last_digits, IsDigitCount}
use Rattle.walk.specs.Numbers.{le?, lt?}
use Rattle.walk.proofs.Searches.{search_only}
use Rattle.walk.proofs.Tests.{Le?, le, gt, test, le?_complete, le?_fails}
use Rattle.little.specs.Little.{put_at}
use Rattle.little.proofs.Putting.{then}
use Rattle.bucket_test.specs.Answers.{Values, values_of}
use Rattle.bucket_test.specs.declared.State.{State}
use Rattle.bucket_test.specs.declared.Report.{Report}
use Rattle.bucket_test.specs.declared.Answer.{Answer}
use Rattle.bucket_test.specs.declared.Answer.TheVariants.{Open, Decided, Crossed, Wide, Spent, Refused}
use Rattle.console.specs.Line.{digit_count, decimal, values_line, line_by, line_of, Puts}

-- a copy of all the bytes
pub copied : (bytes before after : List ℕ) (at i : ℕ) → i ≡ length bytes → after ≡ paste before at bytes i
    → Puts bytes at (at + length bytes) before after
unfolding put_at
copied bytes before after at i h e =
    record { behind = refl; whole = e ∙ rw (h, take-length) (append_assoc (take at before) bytes (drop (at + length bytes) before)) }

-- bytes put behind bytes
pub puts_more : {xs ys before between after : List ℕ} {at m next : ℕ} → at ≤ length before
    → Puts xs at m before between → Puts ys m next between after → Puts (xs ++ ys) at next before after
puts_more {xs} {ys} {before} {between} {after} {at} {m} h p q = record {
  behind = omega (arith, p.behind, q.behind, length-append xs ys);
  whole = then at xs ys before between after m p.whole q.whole h p.behind;
}

-- .. behind what begins the line
pub line_more : {text bytes before between after : List ℕ} {at next : ℕ} → Puts text 0 at before between → Puts bytes at next between after
    → Puts (text ++ bytes) 0 next before after
line_more = puts_more (omega arith)

-- the fewest digits that hold a number
module _ (n r : ℕ) (f : IsDigitCount 10 1 n r) where
  short : (i : ℕ) → 1 ≤ i → i < r → 10 ^ i ≤ n
  short i l h = omega (arith, f.2 (omega arith), pow-le-pow_right {n = 10} (omega arith) {i = i} {j = r - 1} (omega arith))

  fewest_le : (m : ℕ) → 1 ≤ m → n < 10 ^ m → r ≤ m
  fewest_le m l h = go (le? r m) (test r m)
    where
      go : (b : Bool) → Le? r m b → r ≤ m
      go true (le x) = x
      go false (gt x) = omega (arith, short m l x)

  fewest_digits : n < 10 ^ 20 → r ≡ digit_count n
  unfolding digit_count
  fewest_digits h =
      sym
      (search_only 19 1 r (λ k. lt? n (10 ^ k)) f.0 (fewest_le 20 (omega arith) h)
      (λ x. le?_complete (suc n) (10 ^ r) f.1)
      (λ i x y. le?_fails (suc n) (10 ^ i) (omega (arith, short i x y))))

  pub decimal_is : (text : List ℕ) → n < 10 ^ 10 → r ≤ length text → take r text ≡ last_digits 10 r n
      → (length (take r text) ≤ 10) × (take r text ≡ decimal n)
  unfolding decimal
  decimal_is text h k e =
      (omega (arith, length-take-le r text k, fewest_le 10 (omega arith) h), rw e (ap (λ (m : ℕ). last_digits 10 m n) (fewest_digits (omega arith))))

-- an answer that is no refusal prints its values
pub values_line_lem : (s : State) (r : Report) → ((number : ℕ) → r.answer ≡ Refused number → ⊥) → line_of s r ≡ values_line (values_of s r)
unfolding line_of
values_line_lem s r ne = go r.answer (values_of s r) ne
  where
    go : (a : Answer) (v : Values) → ((number : ℕ) → a ≡ Refused number → ⊥) → line_by a v ≡ values_line v
    go Open v f = refl
    go (Decided b) v f = refl
    go Crossed v f = refl
    go Wide v f = refl
    go Spent v f = refl
    go (Refused number) v f = absurd (f number refl)
