-- Laws of the sums over strings of draws (specs/Strings).
use Rattle.std.proofs.Common.{◌≡◌, ℕ, zero, suc, ◌+◌, ◌*◌, ◌^◌, ◌≤◌, true, false, [], ◌∷◌, length, sym, refl, ap, ◌∙◌, pow-suc, arith}
use native.Mathlib.Nat.{pow-zero}
use Rattle.walk.specs.Strings.{Draws, weight, sum_strings}

pub strings_cong : (n : ℕ) (g h : Draws → ℕ) → ((s : Draws) → length s ≡ n → g s ≡ h s) → sum_strings n g ≡ sum_strings n h
strings_cong zero g h e = e [] refl
strings_cong (suc n) g h e =
    strings_cong n _ _ (λ s k. omega (arith, e (false ∷ s) (ap suc k), e (true ∷ s) (ap suc k)))

pub strings_le : (n : ℕ) (g h : Draws → ℕ) → ((s : Draws) → length s ≡ n → g s ≤ h s) → sum_strings n g ≤ sum_strings n h
strings_le zero g h e = e [] refl
strings_le (suc n) g h e =
    strings_le n _ _ (λ s k. omega (arith, e (false ∷ s) (ap suc k), e (true ∷ s) (ap suc k)))

pub strings_add : (n : ℕ) (g h : Draws → ℕ) → sum_strings n (λ s. g s + h s) ≡ sum_strings n g + sum_strings n h
strings_add zero g h = refl
strings_add (suc n) g h =
    strings_cong n _ (λ s. (g (false ∷ s) + g (true ∷ s)) + (h (false ∷ s) + h (true ∷ s))) (λ s k. omega arith)
    ∙ strings_add n _ _

pub strings_mul : (n : ℕ) (g : Draws → ℕ) (k : ℕ) → sum_strings n (λ s. g s * k) ≡ sum_strings n g * k
strings_mul zero g k = refl
strings_mul (suc n) g k =
    strings_cong n _ (λ s. (g (false ∷ s) + g (true ∷ s)) * k) (λ s l. omega arith)
    ∙ strings_mul n _ k

-- all strings of n draws together
pub strings_whole : (x z n : ℕ) → sum_strings n (weight x z) ≡ (z + x) ^ n
strings_whole x z zero = sym (pow-zero (z + x))
strings_whole x z (suc n) =
    strings_cong n _ (λ s. weight x z s * (z + x)) (λ s k. omega arith)
    ∙ strings_mul n (weight x z) (z + x)
    ∙ rw (strings_whole x z n) (sym (pow-suc (z + x) n))
