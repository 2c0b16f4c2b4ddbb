-- What a beginning and a draw hand back, in words (rules 13.1 to 13.3), of every number, run and draw: what is claimed. Definitions only.
use Rattle.std.specs.Prelude.{◌≡◌, ◌⊎◌, ℕ, ◌+◌, ◌-◌, ◌≤◌, ◌<◌}
use Rattle.counting.specs.Run.{size_limit, run_of, refused, begun, drawn}
use Rattle.counting.specs.declared.Run.{Run}
use Rattle.counting.specs.declared.Answer.{Answer}
use Rattle.counting.specs.declared.Answer.TheVariants.{Open, Ended}

-- ---- what 13 and 9 let through, and what 10 and 11 refuse

pub record InRange (h n : ℕ) : Type 0 where
  pub from_1 : 1 ≤ h
  pub below : h < n
  pub at_most : n ≤ size_limit

abbrev pub Bit : ℕ → Type 0
Bit d = (d ≡ 0) ⊎ (d ≡ 1)

abbrev pub Over : Run → Type 0
Over r = (r.ones ≡ r.stop) ⊎ (r.taken ≡ r.size - 1)

abbrev pub Spoiled : Run → Type 0
Spoiled r = (r.size ≤ r.taken) ⊎ ((r.stop < r.ones) ⊎ (r.taken < r.ones))

-- ---- the claim

pub record Begins (h n : ℕ) : Type 0 where
  pub by_13 : ¬ (InRange h n) → begun h n ≡ refused 13 (run_of 0 0 0 0)
  pub else_open : InRange h n → begun h n ≡ record { answer = Open; run = run_of h n 0 0 }

-- the answer a after l draws with g ones
pub record Answers (h n l g : ℕ) (a : Answer) : Type 0 where
  pub at_stop : g ≡ h → a ≡ Ended h l
  pub at_size : ¬ (g ≡ h) → l ≡ n - 1 → a ≡ Ended (g + 1) n
  pub else_open : ¬ (g ≡ h) → ¬ (l ≡ n - 1) → a ≡ Open

-- each refusal where none before it applies; else the draw is taken
pub record Draws (r : Run) (d : ℕ) : Type 0 where
  pub by_13 : ¬ (InRange r.stop r.size) → drawn r d ≡ refused 13 r
  pub by_9 : InRange r.stop r.size → ¬ (Bit d) → drawn r d ≡ refused 9 r
  pub by_10 : InRange r.stop r.size → Bit d → Over r → drawn r d ≡ refused 10 r
  pub by_11 : InRange r.stop r.size → Bit d → ¬ (Over r) → Spoiled r → drawn r d ≡ refused 11 r
  pub else_taken : InRange r.stop r.size → Bit d → ¬ (Over r) → ¬ (Spoiled r)
      → ((drawn r d).run ≡ run_of r.stop r.size (r.taken + 1) (r.ones + d))
      × Answers r.stop r.size (r.taken + 1) (r.ones + d) (drawn r d).answer

-- of all numbers, runs and draws
pub record OneCallTheorem : Type 0 where
  pub begins : (h n : ℕ) → Begins h n
  pub draws : (r : Run) (d : ℕ) → Draws r d
