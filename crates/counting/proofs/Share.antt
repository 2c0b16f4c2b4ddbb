-- The share of the orders with an answer at most a value.
use mathlib.Core.Path.{◌≡◌, refl, ap, ◌∙◌}
use mathlib.Core.List.{List}
use Prim.Native.Nat.{ℕ, zero, suc, ◌-◌, ◌*◌, ◌≤◌, ◌<◌}
use native.Mathlib.Omega.{arith}
use lib.ListN.{length}
use Rattle.counting.specs.OneCall.{InRange}
use Rattle.counting.specs.Orders.{Different, orders, factorial}
use Rattle.counting.specs.Share.{Value, by_stop, by_size, orders_at_most, ShareTheorem}
use Rattle.counting.proofs.Picks.{orders_cong, has_length}
use Rattle.counting.proofs.OrderLaws.{all_orders, order_length, down_differ, down_length}
use Rattle.counting.proofs.Firsts.{among, in_all}
use Rattle.counting.proofs.OrderRuns.{says, ends}

module _ (h n : ℕ) (ok : InRange h n) (xs : List ℕ) (d : Different xs) (e : length xs ≡ n) where
  -- of j / (m + 1) where m + 1 is at most n, and j is h unless m + 1 is n
  share_of : (j m : ℕ) → j ≤ h → h ≤ suc m → suc m ≤ n → (suc m < n → j ≡ h) → orders_at_most h n xs j (suc m) * suc m ≡ j * factorial n
  unfolding orders_at_most orders
  share_of j m jh hm mn whole =
      ap (λ (k : ℕ). k * suc m) (orders_cong (length xs) xs refl _ (among j (suc m)) (λ o k. says h n ok j m jh mn whole o (has_length o xs k ∙ e)))
      ∙ in_all j m (omega arith) (length xs - suc m) (length xs) (omega arith) xs d refl
      ∙ ap (λ (k : ℕ). j * factorial k) e

  share : (j l : ℕ) → Value h n j l → orders_at_most h n xs j l * l ≡ j * factorial n
  share j zero (by_stop p q r) = absurd (omega (arith, ok.from_1))
  share j zero (by_size p q r) = absurd (omega (arith, ok.below))
  share j (suc m) (by_stop p q r) = share_of j m (omega arith) q (omega arith) (λ s. p)
  share j (suc m) (by_size p q r) = share_of j m q (omega (arith, ok.below)) (omega arith) (λ s. absurd (omega arith))

pub share_theorem : ShareTheorem
share_theorem = record {
  shares = λ h n ok xs d e. record {
    all = all_orders xs d;
    ends = λ o order. ends h n ok o (order_length xs o d order ∙ e);
    share = share h n ok xs d e;
  };
  some = λ n. (down_differ n, down_length n);
}
