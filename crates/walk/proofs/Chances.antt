-- The chance theorem: no mass is below its chance, and the spent masses exceed theirs by no more than was rounded.
use Rattle.std.proofs.Common.{◌≡◌, ℕ, zero, suc, ◌+◌, ◌-◌, ◌*◌, ◌^◌, ◌≤◌, Bool, true, false, ◌↔◌, length, refl, ap, ◌∙◌, ⊎_elim, mul-le-mul_right, eq-or-lt_of_le, pow-suc, sub-add_cancel, arith}
use native.Mathlib.Nat.{pow-zero}
use borrow.Author.Tests.{not-true}
use Rattle.walk.specs.Numbers.{le?, lt?, only, sum_to, sum}
use Rattle.walk.specs.Units.{M, million, wide}
use Rattle.walk.specs.Spending.{IsSpending}
use Rattle.walk.specs.Mass.{reaching}
use Rattle.walk.specs.Walk.{is_live, previous, new_mass, mass_from, mass_below, start, absorbed, step_walk, walk, first_at, upper_at, NoWideBefore, no_wide_before?}
use Rattle.walk.specs.Row.{total, rows}
use Rattle.walk.specs.Strings.{Draws, weight, Side, Upper, Lower, MeetsFirst, verdict, mark, is_on, mark_open, last_step, chance}
use Rattle.walk.specs.Chance.{Meets, meets?, meeting, spent, AllowedTheorem, RoundedChanceTheorem, ChanceTheorem}
use Rattle.walk.proofs.Tests.{and_true, only_scale, sum_cong, sum_le, sum-mul}
use Rattle.walk.proofs.Rounding.{mass_ge}
use Rattle.walk.proofs.RowSteps.{rows_sound, rows-total, rounded_few}
use Rattle.walk.proofs.Agreement.{at_total, same, in_order, not_wide}
use Rattle.walk.proofs.Exact.{shifted, exact, met, exact_suc, met_zero, met_suc, met_sum, whole, open_off, verdict_tests}
use Rattle.walk.proofs.StringLaws.{strings_le}
use Rattle.walk.proofs.Meeting.{last_settled, mark_on, mark_meets}

-- a test that passes less weighs less
chance_le : (x y n : ℕ) (f g : Draws → Bool) → ((s : Draws) → length s ≡ n → f s ≡ true → g s ≡ true) → chance x y n f ≤ chance x y n g
unfolding chance
chance_le x y n f g h = strings_le n _ _ (λ s l. go (f s) (g s) (weight x (y - x) s) (h s l))
  where
    go : (p q : Bool) (w : ℕ) → (p ≡ true → q ≡ true) → only p w ≤ only q w
    go true q w i = rw (i refl) (omega arith)
    go false q w i = omega arith

-- the first wide step, as a test and in words
pub narrow_says : (a : ℕ) (E : ℕ → ℕ) (n : ℕ) → (no_wide_before? a E n ≡ true) ↔ NoWideBefore a E n
unfolding no_wide_before? NoWideBefore
narrow_says a E zero = (λ e t l. absurd (omega arith), λ none. refl)
narrow_says a E (suc n) = (
  λ e t l.
      let b = and_true (no_wide_before? a E n) _ e in
      ⊎_elim
      (λ (q : suc t ≡ suc n). let r : t ≡ n = omega arith in rw r (not-true _ b.1))
      (λ k. (narrow_says a E n).0 b.0 t (omega arith))
      (eq-or-lt_of_le l),
  λ none. cc ((narrow_says a E n).1 (λ t l. none t (omega arith)), none n (omega arith)),
)

module _ (a : ℕ) (threshold : a ≤ million) (E : ℕ → ℕ) (spends : IsSpending E) where
  abbrev F : ℕ → ℕ
  F = first_at a E

  abbrev U : ℕ → ℕ
  U = upper_at a E

  orders : (t : ℕ) → F t ≤ U t
  orders = in_order a threshold E spends

  -- the exact weights by count, and those settled on a side
  abbrev live : ℕ → ℕ → ℕ
  live n = exact a (million - a) F U n

  abbrev settled_on : Side → ℕ → ℕ
  settled_on side n = met a (million - a) F U (is_on side) n

  -- ---- one step of the walk, by the verdict on each count

  verdicts : (t c : ℕ) → let v = verdict F U t c in
      (mark_open v ≡ is_live (F t) (U t) c) × (is_on Upper v ≡ le? (U t) c) × (is_on Lower v ≡ lt? c (F t))
  verdicts t c = verdict_tests F U t c (orders t)

  mass_suc : (n c : ℕ) → (walk a E (suc n)).mass c ≡ only (mark_open (verdict F U (suc n) c)) (new_mass a (walk a E n).mass c)
  unfolding walk step_walk absorbed first_at upper_at
  mass_suc n c = rw (verdicts (suc n) c).0

  spent-suc : (side : Side) (n : ℕ)
      → spent side (walk a E (suc n))
      ≡ spent side (walk a E n) + sum_to (suc (suc n)) (λ c. only (is_on side (verdict F U (suc n) c)) (new_mass a (walk a E n).mass c))
  unfolding walk step_walk absorbed first_at upper_at mass_from mass_below
  spent-suc Upper n = ap (λ (x : ℕ). (walk a E n).over + x) (sum_cong (suc (suc n)) _ _ (λ c l. rw (verdicts (suc n) c).1))
  spent-suc Lower n = ap (λ (x : ℕ). (walk a E n).under + x) (sum_cong (suc (suc n)) _ _ (λ c l. rw (verdicts (suc n) c).2))

  -- ---- no mass is below its chance

  -- one cell: K stands for million ^ n
  cell_ge : (g w : ℕ → ℕ) (K : ℕ) → ((c : ℕ) → w c * M ≤ g c * K) → (c : ℕ) → shifted a (million - a) w c * M ≤ new_mass a g c * (K * million)
  unfolding reaching
  cell_ge g w K h c =
      omega (
        arith,
        mul-le-mul_right (million - a) (h c),
        mul-le-mul_right a (earlier c),
        mul-le-mul_right K (mass_ge a (g c) (previous g c)),
      )
    where
      earlier : (c : ℕ) → previous w c * M ≤ previous g c * K
      earlier zero = omega arith
      earlier (suc c) = h c

  start_ge : (c : ℕ) → live 0 c * M ≤ (walk a E 0).mass c * million ^ 0
  unfolding exact walk start le?
  start_ge zero = rw (pow-zero million) (omega arith)
  start_ge (suc c) = omega arith

  live_ge : (n c : ℕ) → live n c * M ≤ (walk a E n).mass c * million ^ n
  live_ge zero c = start_ge c
  live_ge (suc n) c =
      rw (exact_suc a (million - a) F U n c, mass_suc n c, pow-suc million n)
      (only_scale (mark_open (verdict F U (suc n) c)) _ _ M (million ^ n * million) (cell_ge (walk a E n).mass (live n) (million ^ n) (live_ge n) c))

  spent_ge : (side : Side) (n : ℕ) → settled_on side n * M ≤ spent side (walk a E n) * million ^ n
  spent_ge side zero = rw (met_zero a (million - a) F U (is_on side)) (omega arith)
  spent_ge side (suc n) =
      rw (spent-suc side n, met_suc a (million - a) F U (is_on side) n, pow-suc million n, sub-add_cancel threshold)
      (omega (
        arith,
        mul-le-mul_right million (spent_ge side n),
        sum_le (suc (suc n)) (λ c. only (is_on side (verdict F U (suc n) c)) (shifted a (million - a) (live n) c) * M)
            (λ c. only (is_on side (verdict F U (suc n) c)) (new_mass a (walk a E n).mass c) * (million ^ n * million)) (λ c l.
            only_scale (is_on side (verdict F U (suc n) c)) _ _ M (million ^ n * million) (cell_ge (walk a E n).mass (live n) (million ^ n) (live_ge n) c)),
        sum-mul (suc (suc n)) (λ c. only (is_on side (verdict F U (suc n) c)) (shifted a (million - a) (live n) c)) M,
        sum-mul (suc (suc n)) (λ c. only (is_on side (verdict F U (suc n) c)) (new_mass a (walk a E n).mass c)) (million ^ n * million),
      ))

  -- ---- all masses together exceed the whole by no more than was rounded

  walk-total : (n : ℕ) → sum_to (suc n) (walk a E n).mass + (walk a E n).over + (walk a E n).under ≡ total (rows a E n)
  walk-total n =
      let s = same a threshold E spends n in
      let m : sum_to (suc n) (walk a E n).mass ≡ sum (rows a E n).masses =
      sum_cong (suc n) _ _ (λ c l. s.mass_same c) ∙ at_total n (rows a E n).first (rows a E n).masses (rows_sound a threshold E spends n).top in
      omega (arith, m, s.over_same, s.under_same)

  all_ge : (n : ℕ) → sum_to (suc n) (live n) * M ≤ sum_to (suc n) (walk a E n).mass * million ^ n
  all_ge n =
      omega (
        arith,
        sum-mul (suc n) (live n) M,
        sum-mul (suc n) (walk a E n).mass (million ^ n),
        sum_le (suc n) (λ c. live n c * M) (λ c. (walk a E n).mass c * million ^ n) (λ c l. live_ge n c),
      )

  -- the chances of all strings are the whole
  all_settled : (n : ℕ) → (sum_to (suc n) (live n) + settled_on Upper n + settled_on Lower n) * M ≡ million ^ n * M
  all_settled n = rw (whole a (million - a) F U n, sub-add_cancel threshold)

  excess : (n : ℕ) → (total (rows a E n)) * million ^ n ≤ (M + (walk a E n).rounded) * million ^ n
  excess n = mul-le-mul_right (million ^ n) (omega (arith, rows-total a threshold E spends n, (same a threshold E spends n).rounded_same))

  spent_le : (side : Side) (n : ℕ) → spent side (walk a E n) * million ^ n ≤ settled_on side n * M + (walk a E n).rounded * million ^ n
  spent_le Upper n = omega (arith, all_settled n, all_ge n, spent_ge Lower n, excess n, ap (λ (x : ℕ). x * million ^ n) (walk-total n))
  spent_le Lower n = omega (arith, all_settled n, all_ge n, spent_ge Upper n, excess n, ap (λ (x : ℕ). x * million ^ n) (walk-total n))

  -- ---- the theorem

  pub spent_fits : (side : Side) (n : ℕ) → spent side (walk a E n) ≤ E n
  spent_fits Upper n = omega (arith, (same a threshold E spends n).over_same, (rows_sound a threshold E spends n).sound.over_fits)
  spent_fits Lower n = omega (arith, (same a threshold E spends n).under_same, (rows_sound a threshold E spends n).sound.under_fits)

  -- the test of W in words: the string meets the side's boundary of this walk first at some step
  module _ (s : Draws) (side : Side) where
    last : (t : ℕ) → MeetsFirst F U side t s → last_step (mark F U s) (length s) ≡ t
    last t h = rw ((mark_meets F U orders s side t).1 h) (last_settled side t (length s))

    pub meets_says : (meets? a E side s ≡ true) ↔ ((t : ℕ) × Meets a E side t s)
    unfolding meets?
    meets_says = (
      λ e.
          let b = and_true (is_on side (mark F U s)) _ e in
          let h = (mark_on F U orders s side).0 b.0 in
          (h.0, record { meets = h.1; not_past = (narrow_says a E h.0).0 (rw (last h.0 h.1) at b.1) }),
      λ (t, h). cc ((mark_on F U orders s side).1 (t, h.meets), last t h.meets, (narrow_says a E t).1 h.not_past),
    )

  on_sum : (side : Side) (n : ℕ) → chance a million n (λ s. is_on side (mark F U s)) ≡ settled_on side n
  unfolding chance
  on_sum side n = met_sum a (million - a) F U (is_on side) (open_off side) n

  -- W is no more than the walk settles on the side if it goes on past the first wide step, and no less up to there
  meeting_le : (side : Side) (n : ℕ) → meeting a E side n ≤ settled_on side n
  unfolding meeting meets?
  meeting_le side n = rw (← (on_sum side n)) (chance_le a million n _ _ (λ s l e. (and_true (is_on side (mark F U s)) _ e).0))

  meeting_ge : (side : Side) (n : ℕ) → NoWideBefore a E n → settled_on side n ≤ meeting a E side n
  unfolding meeting NoWideBefore
  meeting_ge side n none =
      rw (← (on_sum side n))
      (chance_le a million n _ _ (λ s l e.
      let h = (mark_on F U orders s side).0 e in
      (meets_says s side).1 (h.0, record { meets = h.1; not_past = λ t k. none t (omega (arith, h.1.to)) })))

-- the theorems of this crate
pub allowed_always : AllowedTheorem
allowed_always a threshold E spends side n =
    omega (
      arith,
      mul-le-mul_right M (meeting_le a threshold E spends side n),
      spent_ge a threshold E spends side n,
      mul-le-mul_right (million ^ n) (spent_fits a threshold E spends side n),
    )

pub chances_by_rounding : RoundedChanceTheorem
chances_by_rounding a threshold E spends side n none = record {
  at_least = omega (arith, spent_ge a threshold E spends side n, mul-le-mul_right M (meeting_le a threshold E spends side n));
  at_most = omega (arith, spent_le a threshold E spends side n, mul-le-mul_right M (meeting_ge a threshold E spends side n none));
}

pub chances : ChanceTheorem
chances a threshold E spends side n none =
    let b = chances_by_rounding a threshold E spends side n none in
    let few : (walk a E n).rounded ≤ wide * n =
    omega (arith, (same a threshold E spends n).rounded_same, rounded_few a threshold E spends n ((not_wide a threshold E spends n).0 none)) in
    record { at_least = b.at_least; at_most = omega (arith, b.at_most, mul-le-mul_right (million ^ n) few) }
