-- The mark of a string (specs/Strings) says which boundary the string meets first, and at which step.
use Rattle.std.proofs.Common.{◌≡◌, ℕ, suc, ◌-◌, ◌<◌, ◌≤◌, Bool, true, false, ◌⊎◌, ◌↔◌, [], ◌∷◌, length, sym, refl, ◌∙◌, inl, inr, eq-or-lt_of_le, arith}
use Rattle.walk.specs.declared.Mark.{Mark}
use Rattle.walk.specs.declared.Mark.TheVariants.{Open}
use Rattle.walk.specs.Strings.{Draws, ones, ones_by, Side, Upper, Lower, Reaches, MeetsFirst, judged, verdict, or_else, mark, settled, is_on, last_step}
use Rattle.walk.proofs.Tests.{Le?, le, gt, test, clash}
use Rattle.walk.proofs.Exact.{open_off}

-- ---- counts

-- a draw more changes no onesBy before it
pub ones_by_cons : (b : Bool) (s : Draws) (i : ℕ) → i ≤ length s → ones_by (b ∷ s) i ≡ ones_by s i
unfolding ones_by
ones_by_cons b s i l = let e : suc (length s) - i ≡ suc (length s - i) = omega arith in rw e

pub ones_by_all : (s : Draws) → ones_by s (length s) ≡ ones s
unfolding ones_by
ones_by_all s = let e : length s - length s ≡ 0 = omega arith in rw e

-- ---- sides, and the marks settled on them

outside : (side : Side) {f u c : ℕ} → Reaches side f u c → f ≤ c → c < u → ⊥
outside Upper r h k = omega arith
outside Lower r h k = omega arith

same_side : (side side' : Side) (c : ℕ) {f u : ℕ} → f ≤ u → Reaches side f u c → Reaches side' f u c → side ≡ side'
same_side Upper Upper c o r k = refl
same_side Upper Lower c o r k = absurd (omega arith)
same_side Lower Upper c o r k = absurd (omega arith)
same_side Lower Lower c o r k = refl

stands : (side : Side) (t : ℕ) (v : Mark) → or_else (settled side t) v ≡ settled side t
stands Upper t v = refl
stands Lower t v = refl

on : (side : Side) (t : ℕ) → is_on side (settled side t) ≡ true
on Upper t = refl
on Lower t = refl

on_side : (side side' : Side) (t : ℕ) → is_on side (settled side' t) ≡ true → side' ≡ side
on_side Upper Upper t e = refl
on_side Upper Lower t e = clash (sym e)
on_side Lower Upper t e = clash (sym e)
on_side Lower Lower t e = refl

pub last_settled : (side : Side) (t n : ℕ) → last_step (settled side t) n ≡ t
last_settled Upper t n = refl
last_settled Lower t n = refl

same_step : (side : Side) (t u : ℕ) → settled side t ≡ settled side u → t ≡ u
same_step Upper t u e = cc
same_step Lower t u e = cc

module _ (first upper : ℕ → ℕ) where
  -- before step u the string met no boundary
  abbrev Before : Draws → ℕ → Type 0
  Before s u = (i : ℕ) → 1 ≤ i → i < u → (first i ≤ ones_by s i) × (ones_by s i < upper i)

  meets_same : {side : Side} {t : ℕ} (s s' : Draws) → t ≤ length s' → ((i : ℕ) → i ≤ t → ones_by s' i ≡ ones_by s i)
      → MeetsFirst first upper side t s → MeetsFirst first upper side t s'
  meets_same {t = t} s s' l e h = record {
    from = h.from;
    to = l;
    reaches = rw (e t (omega arith)) h.reaches;
    before = λ i j k. rw (e i (omega arith)) (h.before i j k);
  }

  -- what a string meets first is settled by the draws up to then
  pub meets_prefix : (side : Side) (b : Bool) (s : Draws) (t : ℕ) → t ≤ length s
      → MeetsFirst first upper side t (b ∷ s) ↔ MeetsFirst first upper side t s
  meets_prefix side b s t l = (
    meets_same (b ∷ s) s l (λ i k. sym (ones_by_cons b s i (omega arith))),
    meets_same s (b ∷ s) (omega arith) (λ i k. ones_by_cons b s i (omega arith)),
  )

  -- what the mark of a string says
  data Says (s : Draws) : Type 0 where
    none : mark first upper s ≡ Open → Before s (suc (length s)) → Says s
    some : (side : Side) (t : ℕ) → mark first upper s ≡ settled side t → MeetsFirst first upper side t s → Says s

  says : (s : Draws) → Says s
  unfolding mark verdict
  says [] = none refl (λ i j k. absurd (omega arith))
  says (b ∷ s) = go (says s)
    where
      n : ℕ
      n = suc (length s)

      earlier : Before s n → Before (b ∷ s) n
      earlier f i j k = rw (ones_by_cons b s i (omega arith)) (f i j k)

      meets : (side : Side) → Reaches side (first n) (upper n) (ones (b ∷ s)) → Before s n → MeetsFirst first upper side n (b ∷ s)
      meets side r f = record { from = omega arith; to = omega arith; reaches = rw (ones_by_all (b ∷ s)) r; before = earlier f }

      inside : first n ≤ ones (b ∷ s) → ones (b ∷ s) < upper n → Before s n
          → (i : ℕ) → 1 ≤ i → (i ≡ n) ⊎ (i < n) → (first i ≤ ones_by (b ∷ s) i) × (ones_by (b ∷ s) i < upper i)
      inside h k f i j (inl e) = rw (e, ones_by_all (b ∷ s)) (h, k)
      inside h k f i j (inr l) = earlier f i j l

      now : (o u : Bool) → Le? (upper n) (ones (b ∷ s)) o → Le? (suc (ones (b ∷ s))) (first n) u
          → mark first upper (b ∷ s) ≡ judged n o u → Before s n → Says (b ∷ s)
      now true u (le h) k e f = some Upper n e (meets Upper h f)
      now false true h (le k) e f = some Lower n e (meets Lower k f)
      now false false (gt h) (gt k) e f = none e (λ i j l. inside (omega arith) h f i j (eq-or-lt_of_le (omega arith)))

      go : Says s → Says (b ∷ s)
      go (none e f) = now _ _ (test (upper n) (ones (b ∷ s))) (test (suc (ones (b ∷ s))) (first n)) (rw e) f
      go (some side t e h) = some side t (rw e (stands side t _)) ((meets_prefix side b s t h.to).1 h)

  late : {side : Side} {t : ℕ} {s : Draws} (u : ℕ) → MeetsFirst first upper side t s → Before s u → u ≤ t
  late {side} {t} u h f =
      let n : ¬ (t < u) = λ l. outside side h.reaches (f t h.from l).0 (f t h.from l).1 in
      omega arith

  module _ (order : (t : ℕ) → first t ≤ upper t) where
    one_only : {side side' : Side} {t u : ℕ} {s : Draws} → MeetsFirst first upper side t s → MeetsFirst first upper side' u s
        → settled side t ≡ settled side' u
    one_only {side} {side'} {t} {u} {s} h k =
        let e : t ≡ u = omega (arith, late u h k.before, late t k h.before) in
        let r : Reaches side' (first t) (upper t) (ones_by s t) = rw e k.reaches in
        cc (same_side side side' (ones_by s t) (order t) h.reaches r)

    meets_mark : {side : Side} {t : ℕ} {s : Draws} → Says s → MeetsFirst first upper side t s → mark first upper s ≡ settled side t
    meets_mark (none e f) h = absurd (omega (arith, h.to, late _ h f))
    meets_mark (some side' u e k) h = e ∙ one_only k h

    on_meets : {s : Draws} (side : Side) → Says s → is_on side (mark first upper s) ≡ true → (t : ℕ) × MeetsFirst first upper side t s
    on_meets side (none e f) p = clash (cc (open_off side))
    on_meets side (some side' t e h) p = (t, rw (on_side side side' t (cc)) at h)

    pub mark_on : (s : Draws) (side : Side) → (is_on side (mark first upper s) ≡ true) ↔ ((t : ℕ) × MeetsFirst first upper side t s)
    mark_on s side = (on_meets side (says s), λ h. cc (meets_mark (says s) h.1, on side h.0))

    pub mark_meets : (s : Draws) (side : Side) (t : ℕ) → (mark first upper s ≡ settled side t) ↔ MeetsFirst first upper side t s
    mark_meets s side t = (
      λ e.
          let h = on_meets side (says s) (cc (on side t)) in
          rw (same_step side h.0 t (cc (meets_mark (says s) h.1))) at h.1,
      meets_mark (says s),
    )

    never_meets : {s : Draws} → Says s → ((side : Side) (t : ℕ) → ¬ (MeetsFirst first upper side t s)) → mark first upper s ≡ Open
    never_meets (none e f) never = e
    never_meets (some side t e h) never = absurd (never side t h)

    pub mark_open_lem : (s : Draws) → (mark first upper s ≡ Open) ↔ ((side : Side) (t : ℕ) → ¬ (MeetsFirst first upper side t s))
    mark_open_lem s = (
      λ e side t h. clash (cc (meets_mark (says s) h, on side t, open_off side)),
      never_meets (says s),
    )
