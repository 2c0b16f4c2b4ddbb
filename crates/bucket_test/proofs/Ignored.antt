-- Places past a count are ignored (specs/Ignored).
use mathlib.Core.Path.{◌≡◌, refl, ap}
use mathlib.Core.Bool.{Bool, ◌&&◌}
use mathlib.Core.List.{List}
use Prim.Native.Nat.{ℕ, zero, suc, ◌+◌, ◌<◌}
use lib.ListN.{get_or}
use Rattle.walk.specs.Numbers.{le?}
use Rattle.plan.specs.Plan.{threshold_at, allowance_at, left_at, right_at, step_at, share_at, plan_refusal}
use Rattle.plan.specs.SameCounted.{SameRules}
use Rattle.bucket_choice.specs.Choice.{chosen_bucket}
use Rattle.bucket_test.specs.Words.{words_fit}
use Rattle.bucket_test.specs.Answers.{low_of, high_of, any_wide, answer_of}
use Rattle.bucket_test.specs.Draw.{start_state, start_words, begin_refusal, begun_by, begun_over, begun, state_sound, draw_refusal_over, draw_refusal, next_state, next_words, drawn_by, drawn_over, drawn, report_by, report_over, report}
use Rattle.bucket_test.specs.Ignored.{SameTest, IgnoredTheorem}
use Rattle.bucket_test.specs.declared.Threshold.{Threshold}
use Rattle.bucket_test.specs.declared.State.{State}
use Rattle.plan.specs.declared.Plan.{Plan}
use Rattle.plan.proofs.PlaceLaws.{all_cong, largest_cong, smallest_cong}
use Rattle.plan.proofs.PlaceLists.{over_cong, join_cong}
use Rattle.plan.proofs.SameCountedLaws.{with_places, by_places, same_rules}
use Rattle.bucket_test.proofs.AnsweringLaws.{answer_cong}

-- other places in the plan p, the same where p counts
module _ (p : Plan) (thresholds allowances left right steps shares : List ℕ)
    (entries : (i : ℕ) → i < p.count → (get_or thresholds i 0 ≡ threshold_at p i) × (get_or allowances i 0 ≡ allowance_at p i))
    (ends : (j : ℕ) → j < p.buckets → (get_or left j 0 ≡ left_at p j) × (get_or right j 0 ≡ right_at p j))
    (points : (j : ℕ) → j < p.points → (get_or steps j 0 ≡ step_at p j) × (get_or shares j 0 ≡ share_at p j)) where
  abbrev q : Plan
  q = with_places p thresholds allowances left right steps shares

  rules : SameRules p q
  rules = same_rules p q (record { counts = (refl, refl, refl); times = (refl, refl); entries = entries; ends = ends; points = points })

  -- ---- the answer to a state

  module _ (s : State) where
    low_same : low_of q s ≡ low_of p s
    unfolding low_of
    low_same = largest_cong p.count _ _ 0 (λ i l. rw (entries i l).0)

    high_same : high_of q s ≡ high_of p s
    unfolding high_of
    high_same = smallest_cong p.count _ _ _ (λ i l. rw (entries i l).0)

    answer_same : answer_of q s ≡ answer_of p s
    unfolding any_wide
    answer_same = answer_cong p q refl refl ends s low_same high_same refl

    report_same : report q s ≡ report p s
    unfolding report_over
    report_same = rw rules.refusal_same (go (plan_refusal p))
      where
        go : (r : ℕ) → report_by chosen_bucket r q s ≡ report_by chosen_bucket r p s
        go zero = rw (answer_same, low_same, high_same)
        go (suc r) = refl

  -- ---- a beginning, a draw

  begun_same : (words : List ℕ) → begun q words ≡ begun p words
  unfolding begun_over begin_refusal words_fit start_words
  begun_same words = rw rules.refusal_same (go (begin_refusal p words))
    where
      go : (r : ℕ) → begun_by chosen_bucket r q words ≡ begun_by chosen_bucket r p words
      go zero = rw (answer_same start_state)
      go (suc r) = refl

  module _ (s : State) (words : List ℕ) where
    sound_same : state_sound q s words ≡ state_sound p s words
    unfolding state_sound
    sound_same =
        ap (λ (b : Bool). le? s.n p.horizon && (le? s.ones s.n && b))
        (all_cong p.count _ _ (λ i l. rw (rules.spending_same i l s.n)))

    module _ (d : ℕ) where
      state_same : next_state q s words d ≡ next_state p s words d
      unfolding next_state
      state_same =
          ap (λ (rs : List Threshold). record { n = suc s.n; ones = s.ones + d; records = rs })
          (over_cong p.count _ _ s.records (λ i l t. rw ((entries i l).0, rules.spending_same i l (suc s.n))))

      words_same : next_words q s words d ≡ next_words p s words d
      unfolding next_words
      words_same = join_cong p.count _ _ (λ i l. rw ((entries i l).0, rules.spending_same i l (suc s.n)))

      refusal_same : draw_refusal q s words d ≡ draw_refusal p s words d
      unfolding draw_refusal_over words_fit
      refusal_same = rw (rules.refusal_same, answer_same s, sound_same)

      drawn_same : drawn q s words d ≡ drawn p s words d
      unfolding drawn_over
      drawn_same = rw refusal_same (go (draw_refusal p s words d))
        where
          go : (r : ℕ) → drawn_by chosen_bucket r q s words d ≡ drawn_by chosen_bucket r p s words d
          go zero = rw (state_same, words_same, answer_same (next_state p s words d))
          go (suc r) = refl

  same : SameTest p q
  same = record {
    rules_same = rules;
    answer_same = answer_same;
    report_same = report_same;
    begun_same = begun_same;
    drawn_same = drawn_same;
  }

pub ignored : IgnoredTheorem
ignored p q c =
    by_places (SameTest p) p q c
    (same p q.thresholds q.allowances q.left q.right q.steps q.shares c.entries c.ends c.points)
