-- What the pass over live masses keeps grows with each of them.
use Rattle.std.proofs.Common.{◌≡◌, ℕ, zero, suc, ◌+◌, ◌*◌, ◌%◌, ◌≤◌, Bool, true, false, ◌&&◌, List, [], ◌∷◌, get_or, take, sym, refl, ap, ◌∙◌, add-one, arith}
use mathlib.Core.Bool.{and_assoc}
use lib.Bits.{bit_or, or_lt, or_comm, or_add_and, and_le_r}
use Rattle.walk.specs.Numbers.{le?, lt?, sum, all_up_to}
use Rattle.walk.specs.Units.{mass_limit, wide}
use Rattle.walk.specs.Weighing.{Weighs}
use Rattle.walk.specs.declared.Weighed.{Weighed}
use Rattle.walk.proofs.Tests.{Le?, le, gt, test, and_true, le?_sound, le?_complete, le?_fails}
use Rattle.walk.proofs.Lists.{sum-take-suc}

-- a mass x that is seen, with y = x + 2^43 - 1
le_or : (a b : ℕ) → (a ≤ bit_or a b) × (b ≤ bit_or a b)
le_or a b = (omega (arith, or_add_and a b, and_le_r a b), omega (arith, or_add_and b a, and_le_r b a, or_comm a b))

bits_tell : (bits x y : ℕ) → y ≡ (x + 8796093022207) % 18446744073709551616
    → lt? (bit_or bits (bit_or x y)) (2 * mass_limit) ≡ lt? bits (2 * mass_limit) && le? x mass_limit
unfolding mass_limit
bits_tell bits x y e = go (le? x 8796093022208) (test x 8796093022208) (lt? bits 17592186044416) (test (suc bits) 17592186044416)
  where
    over : 17592186044416 ≤ bit_or bits (bit_or x y) → lt? (bit_or bits (bit_or x y)) 17592186044416 ≡ false
    over h = le?_fails _ _ (omega arith)

    go : (f : Bool) → Le? x 8796093022208 f → (o : Bool) → Le? (suc bits) 17592186044416 o
        → lt? (bit_or bits (bit_or x y)) 17592186044416 ≡ o && f
    go f t false (gt g) = over (omega (arith, le_or bits (bit_or x y)))
    go true (le h) true (le g) = le?_complete _ _ (or_lt 44 bits (bit_or x y) g (or_lt 44 x y (omega arith) (omega arith)))
    go false (gt h) true (le g) = over (omega (arith, le_or bits (bit_or x y), le_or x y))

all_take-suc : (b : ℕ) (xs : List ℕ) (i : ℕ) → all_up_to b (take (suc i) xs) ≡ all_up_to b (take i xs) && le? (get_or xs i 0) b
all_take-suc b [] zero = sym (le?_complete 0 b (omega arith))
all_take-suc b [] (suc i) = sym (le?_complete 0 b (omega arith))
all_take-suc b (x ∷ xs) zero = go (le? x b)
  where
    go : (f : Bool) → f && true ≡ f
    go true = refl
    go false = refl
all_take-suc b (x ∷ xs) (suc i) =
    ap (λ (f : Bool). le? x b && f) (all_take-suc b xs i) ∙ sym (and_assoc (le? x b) (all_up_to b (take i xs)) (le? (get_or xs i 0) b))

-- small masses sum to less than 2^53
sum_small : (xs : List ℕ) (i : ℕ) → all_up_to mass_limit (take i xs) ≡ true → sum (take i xs) ≤ mass_limit * i
unfolding mass_limit
sum_small xs zero p = omega arith
sum_small xs (suc i) p =
    let h : (all_up_to mass_limit (take i xs) ≡ true) × (le? (get_or xs i 0) mass_limit ≡ true) = and_true _ _ (sym (all_take-suc mass_limit xs i) ∙ p) in
    omega (arith, sum-take-suc xs i, sum_small xs i h.0, le?_sound _ _ h.1)

pub weighs_next : (masses : List ℕ) (i : ℕ) (w r : Weighed) (x y : ℕ) → get_or masses i 0 ≡ x → Weighs masses i w
    → y ≡ (x + 8796093022207) % 18446744073709551616 → r.bits ≡ bit_or w.bits (bit_or x y) → r.sum ≡ (w.sum + x) % 18446744073709551616
    → Weighs masses (i + 1) r
unfolding mass_limit wide
weighs_next masses i w r x y is h above bits sums = rw add-one (record {
  fits = ap (λ (k : ℕ). lt? k (2 * mass_limit)) bits ∙ bits_tell w.bits x y above
      ∙ ap (λ (f : Bool). f && le? x mass_limit) h.fits ∙ ap (λ (k : ℕ). all_up_to mass_limit (take i masses) && le? k mass_limit) (sym is)
      ∙ sym (all_take-suc mass_limit masses i);
  sums = λ few p.
      let f : (all_up_to mass_limit (take i masses) ≡ true) × (le? (get_or masses i 0) mass_limit ≡ true)
      = and_true _ _ (sym (all_take-suc mass_limit masses i) ∙ p) in
      omega (arith, sums, h.sums (omega arith) f.0, sum_small masses i f.0, le?_sound _ _ f.1, sum-take-suc masses i, is);
})
