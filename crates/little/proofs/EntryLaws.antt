-- Entries of one size, one behind the other (specs/Little, put_at).
use mathlib.Core.Path.{◌≡◌, refl, sym, ◌∙◌}
use mathlib.Core.List.{List, ◌++◌, append_assoc}
use mathlib.Core.Logic.{⊎_elim}
use Prim.Native.Nat.{ℕ, zero, suc, ◌+◌, ◌*◌, ◌≤◌, ◌<◌}
use native.Mathlib.Nat.{eq-or-lt_of_le}
use native.Mathlib.Numerals.{add-one}
use native.Mathlib.Omega.{arith}
use lib.ListN.{length}
use Rattle.plan.specs.Places.{join_to}
use Rattle.plan.proofs.PlaceLists.{join_length}
use Rattle.little.specs.Little.{field, put_at}
use Rattle.little.proofs.LittleLaws.{field_left, field_right}
use Rattle.little.proofs.Putting.{put_none, then}

module _ (g : ℕ → List ℕ) (size : ℕ) (each : (i : ℕ) → length (g i) ≡ size) where
  pub join_size : (n : ℕ) → length (join_to n g) ≡ size * n
  join_size n = join_length g size n (λ i l. each i)

  -- a number of entry i, with more behind
  pub join_field : (n : ℕ) (r : List ℕ) (i width o : ℕ) → i < n → o + width ≤ size
      → field width (size * i + o) (join_to n g ++ r) ≡ field width o (g i)
  unfolding join_to
  join_field zero r i width o l h = absurd (omega arith)
  join_field (suc n) r i width o l h =
      rw append_assoc
      (⊎_elim
      (λ q.
      let f : i ≡ n = omega arith in
      rw f (field_right width o (join_to n g) (g n ++ r) (size * n) (join_size n) ∙ field_left width o (g n) r (omega (arith, each n))))
      (λ k. join_field n (g n ++ r) i width o (omega arith) h)
      (eq-or-lt_of_le l))

  -- what a loop has put when it comes to place i, of `count` entries to put from an offset on
  module _ (at count : ℕ) (bytes₀ : List ℕ) where
    abbrev pub PutTo : ℕ → List ℕ → Type 0
    PutTo i bytes = (i ≤ count) × (length bytes ≡ length bytes₀) × (bytes ≡ put_at at (join_to i g) bytes₀)

    pub put_start : PutTo 0 bytes₀
    unfolding join_to
    put_start = (omega arith, refl, sym (put_none at bytes₀))

    pub put_next : (i : ℕ) (bytes bytes' : List ℕ) → PutTo i bytes → i < count → length bytes' ≡ length bytes
        → bytes' ≡ put_at (at + size * i) (g i) bytes → at ≤ length bytes₀ → PutTo (i + 1) bytes'
    unfolding join_to
    put_next i bytes bytes' h l same e long =
        (omega arith, same ∙ h.1, rw (add-one i) (then at (join_to i g) (g i) bytes₀ bytes bytes' (at + size * i) h.2 e long (rw (join_size i))))

    pub put_all : (i : ℕ) (bytes : List ℕ) → PutTo i bytes → count ≤ i → bytes ≡ put_at at (join_to count g) bytes₀
    put_all i bytes h l = let same : i ≡ count = omega arith in rw (← same) h.2
