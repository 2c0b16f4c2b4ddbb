-- What refusal 11 asks of a threshold's record and words, and what a step asks of them.
use Rattle.std.specs.Prelude.{◌≡◌, ℕ, suc, ◌+◌, ◌-◌, ◌*◌, ◌<◌, ◌≤◌, Bool, true, ◌&&◌, List, length, pos, negsuc, ◌-ℤ◌, int_le, int_lt}
use Rattle.walk.specs.Numbers.{le?, lt?, all_up_to}
use Rattle.walk.specs.Units.{M, million, wide, mass_limit, horizon_limit}
use Rattle.walk.specs.Walk.{below}
use Rattle.walk.specs.Row.{Sound, total}
use Rattle.walk.specs.Record.{first_above, row_of}
use Rattle.walk.specs.declared.Walked.{Walked}

-- ---- refusal 11 (rules 8.4), of any record and any words, after n draws

-- over 769 masses rounded for each draw: not so
unfoldable pub rounded_fits : ℕ → Walked → Bool
rounded_fits n w = le? w.rounded (wide * n)

-- of an open threshold, in its order, after s ones, e = E(n): lower < -1, upper > n + 1, upper - lower < 2 or > 770, s at or beyond a
-- boundary, or a spent mass over e: none of these
unfoldable pub boundaries_sound : ℕ → ℕ → ℕ → Walked → Bool
boundaries_sound e n s w =
    int_le (negsuc 0) w.lower
    && (le? w.upper (suc n)
    && (int_le (pos 2) (pos w.upper -ℤ w.lower)
    && (int_le (pos w.upper -ℤ w.lower) (pos (suc wide))
    && (int_lt w.lower (pos s)
    && (lt? s w.upper
    && (le? w.over e
    && le? w.under e))))))

-- .. nor a live word over 2^43, nor live mass plus spent masses below M
unfoldable pub words_sound : Walked → List ℕ → Bool
words_sound w words = all_up_to mass_limit (row_of w words).masses && le? M (total (row_of w words))

-- What a step with e to spend asks. All of it holds of a record that is not wide with one word more than are live, let through by refusal 11
-- after at most 50,000 draws, where e is what the next step may spend (proofs/SoundnessLaws, `steppable`).
pub record Steppable (a e : ℕ) (w : Walked) (words : List ℕ) : Type 0 where
  pub threshold : a ≤ million
  pub half : e + e < M
  pub room : w.upper - first_above w.lower < length words
  pub signed : w.lower ≡ below (first_above w.lower)
  pub narrow : w.upper < first_above w.lower + wide
  pub early : w.upper ≤ suc horizon_limit
  pub rounded_holds : w.rounded ≤ wide * horizon_limit
  pub small : all_up_to mass_limit (row_of w words).masses ≡ true
  pub sound : Sound e (row_of w words)
