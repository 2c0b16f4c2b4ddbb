-- What the tests of specs/Choice say, and that the choice finds the place to be named (specs/Chosen), of which there is one only.
use mathlib.Core.Path.{◌≡◌, refl, sym, ◌∙◌, ap}
use mathlib.Core.Bool.{Bool, true, false, not, ◌&&◌}
use mathlib.Core.Logic.{⊎_elim, ◌↔◌}
use Prim.Native.Nat.{ℕ, suc, ◌≤◌, ◌<◌}
use native.Mathlib.Omega.{arith}
use Rattle.walk.specs.Numbers.{search_up}
use Rattle.walk.proofs.Tests.{clash, le?_sound, le?_complete, le?_fails}
use Rattle.walk.proofs.Searches.{search_only, search_cong}
use Rattle.plan.specs.Places.{any_to}
use Rattle.plan.specs.Plan.{left_at, right_at}
use Rattle.plan.proofs.PlaceLaws.{both, neither, le_reads, le_or_lt, any_reads, any_cong}
use Rattle.std.specs.Prelude.{Some, None, if◌then◌else◌}
use Rattle.walk.specs.Numbers.{lt?}
use Rattle.bucket_choice.specs.Choice.{width_at, contains, narrower, narrowest, chosen_bucket, named}
use Rattle.bucket_choice.specs.Chosen.{Contains, Chosen}
use Rattle.plan.specs.declared.Plan.{Plan}

refuted : (b : Bool) → ¬ (b ≡ true) → b ≡ false
refuted true f = absurd (f refl)
refuted false f = refl

module _ (p : Plan) (low high : ℕ) where
  -- ---- the tests, in words

  pub contains_reads : (j : ℕ) → (contains p low high j ≡ true) ↔ ((left_at p j ≤ low) × (high ≤ right_at p j))
  unfolding contains
  contains_reads j = both (le_reads (left_at p j) low) (le_reads high (right_at p j))

  pub contains_says : (j : ℕ) → j < p.buckets → contains p low high j ≡ true → Contains p low high j
  contains_says j l e = let h = (contains_reads j).0 e in record { inside = l; left_fits = h.0; right_fits = h.1 }

  pub says_contains : {j : ℕ} → Contains p low high j → contains p low high j ≡ true
  says_contains {j} h = (contains_reads j).1 (h.left_fits, h.right_fits)

  pub contains_not : (j : ℕ) → contains p low high j ≡ false → ¬ Contains p low high j
  contains_not j e h = clash (sym (says_contains h) ∙ e)

  narrower_reads : (i j : ℕ) → (narrower p low high i j ≡ true) ↔ ((contains p low high i ≡ true) × (width_at p i < width_at p j))
  unfolding narrower
  narrower_reads i j = both (λ e. e, λ e. e) (le_reads (suc (width_at p i)) (width_at p j))

  narrowest_reads : (j : ℕ)
      → (narrowest p low high j ≡ true)
      ↔ ((contains p low high j ≡ true) × (¬ ((i : ℕ) × (i < p.buckets) × (narrower p low high i j ≡ true))))
  unfolding narrowest
  narrowest_reads j = both (λ e. e, λ e. e) (neither _ (any_reads (λ i. narrower p low high i j) p.buckets))

  -- ---- the place to be named

  pub chosen_only : {i j : ℕ} → Chosen p low high i → Chosen p low high j → i ≡ j
  chosen_only {i} {j} a b =
      let w : width_at p i ≡ width_at p j = omega (arith, a.none_narrower j b.contains_it, b.none_narrower i a.contains_it) in
      omega (arith, a.none_earlier j b.contains_it (sym w), b.none_earlier i a.contains_it w)

  pub chosen_found : {j : ℕ} → Chosen p low high j → chosen_bucket p low high ≡ j
  unfolding chosen_bucket
  chosen_found {j} c =
      search_only p.buckets 0 j (narrowest p low high) (omega arith) (omega (arith, c.contains_it.inside)) (λ l. passes)
      (λ i l k. refuted (narrowest p low high i) (fails i k))
    where
      passes : narrowest p low high j ≡ true
      passes =
          (narrowest_reads j).1 (
            says_contains c.contains_it,
            λ s. let h = (narrower_reads s.0 j).0 s.2 in omega (arith, h.1, c.none_narrower s.0 (contains_says s.0 s.1 h.0)),
          )

      -- an earlier one that contains the interval is wider
      wider : (i : ℕ) → i < j → Contains p low high i → width_at p j < width_at p i
      wider i l h =
          ⊎_elim (λ m. let w : width_at p i ≡ width_at p j = omega (arith, c.none_narrower i h) in absurd (omega (arith, c.none_earlier i h w)))
          (λ m. m) (le_or_lt (width_at p i) (width_at p j))

      fails : (i : ℕ) → i < j → ¬ (narrowest p low high i ≡ true)
      fails i l e =
          let n = (narrowest_reads i).0 e in
          n.1 (
            j,
            c.contains_it.inside,
            (narrower_reads j i).1
                (says_contains c.contains_it, wider i l (contains_says i (omega (arith, c.contains_it.inside)) n.0)),
          )

  pub chosen_none : ((j : ℕ) → ¬ Contains p low high j) → chosen_bucket p low high ≡ p.buckets
  unfolding chosen_bucket
  chosen_none none =
      search_only p.buckets 0 p.buckets (narrowest p low high) (omega arith) (omega arith) (λ l. absurd (omega arith))
      (λ i l k. refuted (narrowest p low high i) (λ e. none i (contains_says i k ((narrowest_reads i).0 e).0)))

-- two plans with the same buckets
module _ (p q : Plan) (buckets : q.buckets ≡ p.buckets)
    (ends : (j : ℕ) → j < p.buckets → (left_at q j ≡ left_at p j) × (right_at q j ≡ right_at p j)) (low high : ℕ) where
  contains_same : (j : ℕ) → j < q.buckets → contains q low high j ≡ contains p low high j
  unfolding contains
  contains_same j l = let e = ends j (omega arith) in rw (e.0, e.1)

  width_same : (j : ℕ) → j < q.buckets → width_at q j ≡ width_at p j
  width_same j l = let e = ends j (omega arith) in omega (arith, e.0, e.1)

  narrower_same : (i j : ℕ) → i < q.buckets → j < q.buckets → narrower q low high i j ≡ narrower p low high i j
  unfolding narrower
  narrower_same i j l m = rw (contains_same i l, width_same i l, width_same j m)

  narrowest_same : (j : ℕ) → j < q.buckets → narrowest q low high j ≡ narrowest p low high j
  unfolding narrowest
  narrowest_same j l =
      rw (contains_same j l, any_cong q.buckets (λ i. narrower q low high i j) (λ i. narrower p low high i j) (λ i m. narrower_same i j m l))
      (ap (λ n. contains p low high j && not (any_to n (λ i. narrower p low high i j))) buckets)

  pub chosen_cong : chosen_bucket q low high ≡ chosen_bucket p low high
  unfolding chosen_bucket
  chosen_cong =
      search_cong q.buckets 0 (narrowest q low high) (narrowest p low high) (λ j l. narrowest_same j (omega arith))
      ∙ ap (λ n. search_up n 0 (narrowest p low high)) buckets

-- ---- the place that is named, as an option

module _ (n j : ℕ) where
  pub named_some : {k : ℕ} → Some k ≡ named n j → (k ≡ j) × (j < n)
  named_some {k} e = go (lt? j n) refl e
    where
      go : (b : Bool) → lt? j n ≡ b → Some k ≡ (if b then Some j else None) → (k ≡ j) × (j < n)
      go true t e = (cc, le?_sound (suc j) n t)
      go false t e = cc

  pub named_none : None ≡ named n j → n ≤ j
  named_none e =
      ⊎_elim (λ l. l) (λ l. let f = rw (le?_complete (suc j) n l) at e in cc) (le_or_lt n j)

module _ (p : Plan) (low high : ℕ) where
  pub named_found : {j : ℕ} → Chosen p low high j → Some j ≡ named p.buckets (chosen_bucket p low high)
  named_found {j} c = rw (chosen_found p low high c, le?_complete (suc j) p.buckets c.contains_it.inside)

  pub named_nowhere : ((j : ℕ) → ¬ Contains p low high j) → None ≡ named p.buckets (chosen_bucket p low high)
  named_nowhere none = rw (chosen_none p low high none, le?_fails (suc p.buckets) p.buckets (omega arith))
