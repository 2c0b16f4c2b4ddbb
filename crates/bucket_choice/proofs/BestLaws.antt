-- Of the places before n, the first of the narrowest that contain the interval: there is one unless none does, and `min_by_key` picks it.
use mathlib.Core.Path.{◌≡◌, refl}
use mathlib.Core.Bool.{Bool, cond, true, false}
use mathlib.Core.List.{◌∷◌}
use mathlib.Core.Logic.{◌⊎◌, ◌↔◌, inl, inr, ⊎_elim}
use Prim.Native.Nat.{ℕ, zero, suc, ◌+◌, ◌≤◌, ◌<◌}
use native.Mathlib.Numerals.{add-one}
use native.Mathlib.Nat.{eq-or-lt_of_le}
use native.Mathlib.Omega.{arith}
use Rattle.plan.proofs.PlaceLaws.{le_or_lt}
use Rattle.std.specs.Prelude.{Option, Some, None}
use Rattle.std.proofs.Common.{Ordering, Less, Equal, Greater}
use Rattle.std.specs.Ordering.{nat_cmp, min_by_ordering, MatchOrdering}
use Rattle.std.specs.Cmp.{ranked}
use Rattle.std.specs.List.{filter, fold, reduce, range_with_len}
use Rattle.bucket_choice.proofs.ByKey.{lesser}
use Rattle.bucket_choice.specs.Choice.{width_at, contains, chosen_bucket, named}
use Rattle.bucket_choice.specs.Chosen.{Contains, Chosen}
use Rattle.plan.specs.declared.Plan.{Plan}
use Rattle.bucket_choice.proofs.ChoiceLaws.{contains_says, contains_not, chosen_found, named_found, named_nowhere}

module _ (p : Plan) (low high : ℕ) where
  abbrev pub NoneTo : ℕ → Type 0
  NoneTo n = (i : ℕ) → i < n → ¬ Contains p low high i

  pub record BestTo (n k : ℕ) : Type 0 where
    pub before : k < n
    pub contains_it : Contains p low high k
    pub none_narrower : (i : ℕ) → i < n → Contains p low high i → width_at p k ≤ width_at p i
    pub none_earlier : (i : ℕ) → i < n → Contains p low high i → width_at p i ≡ width_at p k → k ≤ i

  best_chosen : {k : ℕ} → BestTo p.buckets k → Chosen p low high k
  best_chosen b = record {
    contains_it = b.contains_it;
    none_narrower = λ i h. b.none_narrower i h.inside h;
    none_earlier = λ i h. b.none_earlier i h.inside h;
  }

  -- ---- one place more, n

  module _ (n : ℕ) where
    here_or_before : (i : ℕ) → i < suc n → (i ≡ n) ⊎ (i < n)
    here_or_before i l = ⊎_elim (λ e. inl (omega arith)) (λ m. inr (omega arith)) (eq-or-lt_of_le l)

    none_more : NoneTo n → ¬ Contains p low high n → NoneTo (suc n)
    none_more none no-n i l h = ⊎_elim (λ e. no-n (rw (← e) h)) (λ m. none i m h) (here_or_before i l)

    -- it contains the interval, and those before it that do are wider
    best_here : Contains p low high n → ((i : ℕ) → i < n → Contains p low high i → width_at p n < width_at p i) → BestTo (suc n) n
    best_here h wider = record {
      before = omega arith;
      contains_it = h;
      none_narrower = λ i l g. ⊎_elim (λ e. rw e (omega arith)) (λ m. omega (arith, wider i m g)) (here_or_before i l);
      none_earlier = λ i l g w. ⊎_elim (λ e. omega arith) (λ m. absurd (omega (arith, wider i m g))) (here_or_before i l);
    }

    -- the best of those before it stays, unless it contains the interval and is narrower
    best_still : {k : ℕ} → BestTo n k → (Contains p low high n → width_at p k ≤ width_at p n) → BestTo (suc n) k
    best_still {k} b wide = record {
      before = omega (arith, b.before);
      contains_it = b.contains_it;
      none_narrower = λ i l g. ⊎_elim (λ e. rw e (wide (rw (← e) g))) (λ m. b.none_narrower i m g) (here_or_before i l);
      none_earlier = λ i l g w. ⊎_elim (λ e. omega (arith, b.before)) (λ m. b.none_earlier i m g w) (here_or_before i l);
    }

  -- ---- all places before n

  found : (n : ℕ) → n ≤ p.buckets → NoneTo n ⊎ ((k : ℕ) × BestTo n k)
  found zero l = inl (λ i m. absurd (omega arith))
  found (suc n) l = go (contains p low high n) refl (found n (omega arith))
    where
      go : (b : Bool) → contains p low high n ≡ b → NoneTo n ⊎ ((k : ℕ) × BestTo n k) → NoneTo (suc n) ⊎ ((k : ℕ) × BestTo (suc n) k)
      go true t (inl none) = inr (n, best_here n (contains_says p low high n l t) (λ i m g. absurd (none i m g)))
      go true t (inr (k, b)) =
          ⊎_elim (λ m. inr (k, best_still n b (λ h. m)))
          (λ m. inr (n, best_here n (contains_says p low high n l t) (λ i r g. omega (arith, b.none_narrower i r g))))
          (le_or_lt (width_at p k) (width_at p n))
      go false t (inl none) = inl (none_more n none (contains_not p low high n t))
      go false t (inr (k, b)) = inr (k, best_still n b (λ h. absurd (contains_not p low high n t h)))

  pub chosen_or_none : Chosen p low high (chosen_bucket p low high) ⊎ ((j : ℕ) → ¬ Contains p low high j)
  chosen_or_none =
      ⊎_elim (λ none. inr (λ j h. none j h.inside h))
      (λ s. let c : Chosen p low high s.0 = best_chosen s.1 in inl (rw (chosen_found p low high c) c)) (found p.buckets (omega arith))

-- ---- the first of the least by a key, of the places that contain the interval

-- a later place has a lesser key just where its bucket is narrower
abbrev pub Ranks : Plan → (ℕ → ℕ) → Type 0
Ranks p key = (i j : ℕ) → i < j → j < p.buckets → (key j < key i) ↔ (width_at p j < width_at p i)

module _ (p : Plan) (low high : ℕ) (key : ℕ → ℕ) (ranks : Ranks p key) where
  -- the place n contains it too
  best_more : (n : ℕ) → Contains p low high n → {k : ℕ} → BestTo p low high n k → BestTo p low high (suc n) (lesser key k n)
  best_more n h {k} b = go (nat_cmp (key k) (key n)) (ranked (key k) (key n) _ refl)
    where
      narrower : (key n < key k) ↔ (width_at p n < width_at p k)
      narrower = ranks k n b.before h.inside

      stays : key k ≤ key n → width_at p k ≤ width_at p n
      stays l = ⊎_elim (λ m. m) (λ m. absurd (omega (arith, narrower.1 m))) (le_or_lt (width_at p k) (width_at p n))

      go : (o : Ordering) → MatchOrdering o (key k < key n) (key k ≡ key n) (key n < key k) → BestTo p low high (suc n) (min_by_ordering o k n)
      go Less m = best_still p low high n b (λ g. stays (omega arith))
      go Equal m = best_still p low high n b (λ g. stays (omega arith))
      go Greater m = best_here p low high n h (λ i l g. omega (arith, narrower.0 m, b.none_narrower i l g))

  -- what is picked of the n places from a on, after those before a
  module _ (m : ℕ) (inside : m ≤ p.buckets) where
    best_rest : (n a : ℕ) → a + n ≡ m → (k : ℕ) → BestTo p low high a k
        → BestTo p low high m (fold (lesser key) k (filter (contains p low high) (range_with_len a n)))
    best_rest zero a e k b = let z : a ≡ m = omega arith in rw (← z) b
    best_rest (suc n) a e k b =
        go (contains p low high a) refl (λ j c. best_rest n (a + 1) (omega arith) j (rw add-one c))
      where
        go : (t : Bool) → contains p low high a ≡ t
            → ((j : ℕ) → BestTo p low high (suc a) j
            → BestTo p low high m (fold (lesser key) j (filter (contains p low high) (range_with_len (a + 1) n))))
            → BestTo p low high m
            (fold (lesser key) k
            (cond t (a ∷ filter (contains p low high) (range_with_len (a + 1) n)) (filter (contains p low high) (range_with_len (a + 1) n))))
        go true t rest = rest (lesser key k a) (best_more a (contains_says p low high a (omega arith) t) b)
        go false t rest = rest k (best_still p low high a b (λ h. absurd (contains_not p low high a t h)))

    -- .. where none before a does
    abbrev Picked : Option ℕ → Type 0
    Picked None = NoneTo p low high m
    Picked (Some k) = BestTo p low high m k

    picked : (n a : ℕ) → a + n ≡ m → NoneTo p low high a → Picked (reduce (lesser key) (filter (contains p low high) (range_with_len a n)))
    picked zero a e none = let z : a ≡ m = omega arith in rw (← z) none
    picked (suc n) a e none =
        go (contains p low high a) refl (λ c. picked n (a + 1) (omega arith) (rw add-one c))
      where
        go : (t : Bool) → contains p low high a ≡ t
            → (NoneTo p low high (suc a) → Picked (reduce (lesser key) (filter (contains p low high) (range_with_len (a + 1) n))))
            → Picked
            (reduce (lesser key)
            (cond t (a ∷ filter (contains p low high) (range_with_len (a + 1) n)) (filter (contains p low high) (range_with_len (a + 1) n))))
        go true t rest =
            best_rest n (a + 1) (omega arith) a
            (rw add-one (best_here p low high a (contains_says p low high a (omega arith) t) (λ i l g. absurd (none i l g))))
        go false t rest = rest (none_more p low high a none (contains_not p low high a t))

  pub picked_is : reduce (lesser key) (filter (contains p low high) (range_with_len 0 p.buckets)) ≡ named p.buckets (chosen_bucket p low high)
  picked_is = go _ (picked p.buckets (omega arith) p.buckets 0 (omega arith) (λ i l. absurd (omega arith)))
    where
      go : (o : Option ℕ) → Picked p.buckets (omega arith) o → o ≡ named p.buckets (chosen_bucket p low high)
      go None none = named_nowhere p low high (λ j h. none j h.inside h)
      go (Some k) b = named_found p low high (best_chosen p low high b)
