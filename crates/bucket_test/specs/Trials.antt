-- The trials that are proved, P1 to P10 and numbers of masses rounded (rules 11.1), the two powers of 2, answers that name the narrowest bucket
-- (rules 11.4), and a plan with points (rules 11.5): what is computed from the definitions beside what the rules print, a line each.
use Rattle.std.specs.Prelude.{◌≡◌, List, [], ◌∷◌, ◌++◌, map, ℕ, zero, suc, ◌+◌, ◌*◌, ◌-◌, ◌^◌, ℤ, pos, negsuc, length, replicate}
use Rattle.walk.specs.Units.{M, wide, mass_limit}
use Rattle.walk.specs.Spending.{spending}
use Rattle.walk.specs.Walk.{walk, lower}
use Rattle.walk.specs.Row.{upper, rows}
use Rattle.walk.specs.declared.Mark.{Mark}
use Rattle.walk.specs.declared.Mark.TheVariants.{Open, Above, AtMost}
use Rattle.refusals.specs.Refusals.{unless}
use Rattle.plan.specs.Plan.{count_limit, threshold_at, spending_of, plan_refusal}
use Rattle.plan.specs.PlanF.{plan_f}
use Rattle.plan.specs.Trials.{with_points, plan_of_points}
use Rattle.bucket_choice.specs.Trials.{plan_with, star_plan}
use Rattle.bucket_test.specs.Turn.{start_record, record_sound}
use Rattle.bucket_test.specs.Answers.{low_of, high_of, answer_of, bucket_of, word_of}
use Rattle.bucket_test.specs.Draw.{Outcome}
use Rattle.bucket_test.specs.Carried.{carried}
use Rattle.bucket_test.specs.declared.Answer.TheVariants.{Open as OpenAnswer, Decided}
use Rattle.bucket_test.specs.declared.State.{State}
use Rattle.plan.specs.declared.Plan.{Plan}

-- the spending and the threshold of plan F; the spending of P5
abbrev spending_f : ℕ → ℕ
spending_f = spending_of plan_f 0

abbrev threshold_f : ℕ
threshold_f = threshold_at plan_f 0

abbrev spending5 : ℕ → ℕ
spending5 = spending 2199023255551 1

-- thresholds 10,000 and 50,000 with such an allowance each, and buckets 0 to `end` and 50,000 to 1,000,000
abbrev plan_of_two : ℕ → ℕ → Plan
plan_of_two allowance end = plan_with (10000 ∷ 50000 ∷ []) allowance 200 2 (0 ∷ 50000 ∷ []) (end ∷ 1000000 ∷ [])

-- ten draws taken, and the thresholds so marked
abbrev state_marked : List Mark → State
state_marked ms = record {
  n = 10;
  ones = 1;
  records = map (λ m. record { mark = m; walked = start_record.walked }) ms ++ replicate (count_limit - length ms) start_record;
}

-- thresholds 10,000 and 50,000, and buckets up to each and from each on: two of them contain each interval between neighbouring ends
abbrev plan_of_four : Plan
plan_of_four = plan_with (10000 ∷ 50000 ∷ []) 4398046511 200 4 (0 ∷ 0 ∷ 10000 ∷ 50000 ∷ []) (50000 ∷ 10000 ∷ 1000000 ∷ 1000000 ∷ [])

-- low and high of the state s; the bucket's number of the answer to it, and these
abbrev interval : Plan → State → List ℤ
interval p s = pos (low_of p s) ∷ pos (high_of p s) ∷ []

abbrev answered : Plan → State → List ℤ
answered p s = pos (bucket_of (answer_of p s)) ∷ interval p s

-- the upper and the lower boundary of step t
abbrev boundaries : ℕ → (ℕ → ℕ) → ℕ → List ℤ
boundaries a E t = pos (walk a E t).upper ∷ lower (walk a E t) ∷ []

-- how many masses were rounded by each step from t on, n steps
abbrev rounded_from : ℕ → (ℕ → ℕ) → ℕ → ℕ → List ℤ
rounded_from a E t zero = []
rounded_from a E t (suc n) = pos (walk a E t).rounded ∷ rounded_from a E (suc t) n

-- what refusal 11 says of plan F's threshold after two draws 0, so marked and with so many masses rounded; its walk has the boundaries 3 and -1
abbrev refusal_of11 : Mark → ℕ → ℤ
refusal_of11 m rounded =
    pos (unless (record_sound (spending_f 2) 2 0 m
    (record { mark = m; walked = record { lower = negsuc 0; upper = 3; over = 0; under = 0; rounded = rounded } })
    (3969236976272 ∷ 417814418556 ∷ 10995116278 ∷ [])) 11)

-- the boundaries of step t of the plan with two points
abbrev boundaries_of_points : ℕ → List ℤ
boundaries_of_points = boundaries (threshold_at plan_of_points 0) (spending_of plan_of_points 0)

-- the threshold 100,000 with one point, the whole allowance at step 30: its upper boundary of step t, on the row, which computes faster
abbrev upper_of_one_point : ℕ → ℤ
upper_of_one_point t = pos (upper (rows 100000 (spending_of (with_points 2199023255551 1000 40 100000 (30 ∷ []) (1000000 ∷ [])) 0) t))

-- the test after these draws, latest first: the word of its answer, the bucket's number, n, S, low and high
abbrev test_after : Plan → List ℕ → Outcome
test_after p ds = carried p (replicate (wide * p.count) 0) ds

abbrev line_after : Plan → List ℕ → List ℤ
line_after p ds =
    let o = test_after p ds in
    map pos (word_of o.answer ++ (bucket_of o.answer ∷ o.state.n ∷ o.state.ones ∷ low_of p o.state ∷ high_of p o.state ∷ []))

unfoldable pub computed : List (List ℤ)
computed =
    -- the whole, and the largest live word of a state that is not spoiled
    (pos M ∷ pos mass_limit ∷ [])
    -- P1
    ∷ (pos (spending_f 1) ∷ pos (spending_f 1000) ∷ [])
    -- P2
    ∷ boundaries threshold_f spending_f 1
    ∷ boundaries threshold_f spending_f 2
    ∷ boundaries threshold_f spending_f 3
    ∷ boundaries threshold_f spending_f 4
    ∷ boundaries threshold_f spending_f 5
    -- P3
    ∷ (pos ((walk threshold_f spending_f 1).mass 0) ∷ pos ((walk threshold_f spending_f 1).mass 1) ∷ [])
    -- P4, with the spending of P5, under which both counts stay live (P6): masses, and both together
    ∷ (pos ((walk 400000 spending5 1).mass 0) ∷ pos ((walk 400000 spending5 1).mass 1) ∷ [])
    ∷ (pos ((walk 400000 spending5 1).mass 0 + (walk 400000 spending5 1).mass 1) ∷ [])
    -- P5
    ∷ (pos (spending5 1) ∷ pos (spending5 2) ∷ [])
    -- P6
    ∷ boundaries 400000 spending5 1
    ∷ boundaries 400000 spending5 2
    ∷ boundaries 400000 spending5 3
    -- the masses rounded by steps 1 to 10 of plan F, and 1 to 6 of P5
    ∷ rounded_from threshold_f spending_f 1 10
    ∷ rounded_from 400000 spending5 1 6
    -- 769 × 2 masses rounded, and one more: open, and settled at step 1
    ∷ (refusal_of11 Open 1538 ∷ refusal_of11 Open 1539 ∷ [])
    ∷ (refusal_of11 (Above 1) 1538 ∷ refusal_of11 (Above 1) 1539 ∷ [])
    ∷ (refusal_of11 (AtMost 1) 1538 ∷ refusal_of11 (AtMost 1) 1539 ∷ [])
    -- P7: low and high
    ∷ interval (plan_of_two 4398046511 50000) (state_marked (Above 5 ∷ Open ∷ []))
    -- P8: the word
    ∷ map pos (word_of (answer_of (plan_of_two 4398046511 50000) (state_marked (AtMost 5 ∷ Above 5 ∷ []))))
    -- P9
    ∷ (pos (plan_refusal (plan_of_two 2199023255552 50000)) ∷ [])
    -- P10
    ∷ (pos (plan_refusal (plan_of_two 4398046511 10000)) ∷ [])
    -- the narrower of two buckets; crossed, though each bucket has left ≤ low and high ≤ right; the star buckets
    ∷ answered plan_of_four (state_marked (AtMost 5 ∷ AtMost 5 ∷ []))
    ∷ answered plan_of_four (state_marked (Above 5 ∷ Above 5 ∷ []))
    ∷ answered plan_of_four (state_marked (Above 5 ∷ AtMost 5 ∷ []))
    ∷ answered plan_of_four (state_marked (AtMost 5 ∷ Above 5 ∷ []))
    ∷ answered star_plan (state_marked (Above 5 ∷ Above 5 ∷ replicate 7 (AtMost 5)))
    -- a plan with two points: E(1) and E(2), boundaries of steps 1 to 4, the upper one dropping at step 2
    ∷ (pos (spending_of plan_of_points 0 1) ∷ pos (spending_of plan_of_points 0 2) ∷ [])
    ∷ boundaries_of_points 1
    ∷ boundaries_of_points 2
    ∷ boundaries_of_points 3
    ∷ boundaries_of_points 4
    -- after the draws 1; 1, 0, where a 0 marks above; and 0, 1
    ∷ line_after plan_of_points (1 ∷ [])
    ∷ line_after plan_of_points (0 ∷ 1 ∷ [])
    ∷ line_after plan_of_points (1 ∷ 0 ∷ [])
    -- an upper boundary that drops by many at once, at steps 29 and 30
    ∷ (upper_of_one_point 29 ∷ upper_of_one_point 30 ∷ [])
    ∷ []

unfoldable pub printed : List (List ℤ)
printed =
    (pos (2 ^ 42) ∷ pos (2 ^ 43) ∷ [])
    -- P1
    ∷ (pos 4393652 ∷ pos 2199023255 ∷ [])
    -- P2
    ∷ (pos 2 ∷ negsuc 0 ∷ [])
    ∷ (pos 3 ∷ negsuc 0 ∷ [])
    ∷ (pos 4 ∷ negsuc 0 ∷ [])
    ∷ (pos 5 ∷ negsuc 0 ∷ [])
    ∷ (pos 5 ∷ negsuc 0 ∷ [])
    -- P3
    ∷ (pos 4178144185549 ∷ pos 219902325556 ∷ [])
    -- P4
    ∷ (pos 2638827906663 ∷ pos 1759218604442 ∷ [])
    ∷ (pos (M + 1) ∷ [])
    -- P5
    ∷ (pos 1099511627775 ∷ pos 1466015503700 ∷ [])
    -- P6
    ∷ (pos 2 ∷ negsuc 0 ∷ [])
    ∷ (pos 2 ∷ negsuc 0 ∷ [])
    ∷ (pos 2 ∷ pos 0 ∷ [])
    -- the masses rounded
    ∷ (pos 2 ∷ pos 5 ∷ pos 9 ∷ pos 14 ∷ pos 20 ∷ pos 25 ∷ pos 31 ∷ pos 37 ∷ pos 43 ∷ pos 50 ∷ [])
    ∷ (pos 2 ∷ pos 5 ∷ pos 8 ∷ pos 10 ∷ pos 12 ∷ pos 15 ∷ [])
    ∷ (pos 0 ∷ pos 11 ∷ [])
    ∷ (pos 0 ∷ pos 11 ∷ [])
    ∷ (pos 0 ∷ pos 11 ∷ [])
    -- P7
    ∷ (pos 10000 ∷ pos 1000000 ∷ [])
    -- P8: crossed
    ∷ (pos 99 ∷ pos 114 ∷ pos 111 ∷ pos 115 ∷ pos 115 ∷ pos 101 ∷ pos 100 ∷ [])
    -- P9
    ∷ (pos 3 ∷ [])
    -- P10
    ∷ (pos 6 ∷ [])
    -- the narrowest bucket
    ∷ (pos 2 ∷ pos 0 ∷ pos 10000 ∷ [])
    ∷ (pos 4 ∷ pos 50000 ∷ pos 1000000 ∷ [])
    ∷ (pos 1 ∷ pos 10000 ∷ pos 50000 ∷ [])
    ∷ (pos 0 ∷ pos 50000 ∷ pos 10000 ∷ [])
    ∷ (pos 5 ∷ pos 1000 ∷ pos 2000 ∷ [])
    -- two points
    ∷ (pos 219902325555 ∷ pos 879609302220 ∷ [])
    ∷ (pos 2 ∷ negsuc 0 ∷ [])
    ∷ (pos 1 ∷ negsuc 0 ∷ [])
    ∷ (pos 2 ∷ negsuc 0 ∷ [])
    ∷ (pos 2 ∷ negsuc 0 ∷ [])
    -- open 0 1 1 0 1000000; decided 2 2 1 100000 1000000; the same
    ∷ map pos (word_of OpenAnswer ++ (0 ∷ 1 ∷ 1 ∷ 0 ∷ 1000000 ∷ []))
    ∷ map pos (word_of (Decided 2) ++ (2 ∷ 2 ∷ 1 ∷ 100000 ∷ 1000000 ∷ []))
    ∷ map pos (word_of (Decided 2) ++ (2 ∷ 2 ∷ 1 ∷ 100000 ∷ 1000000 ∷ []))
    -- from 30 to 4
    ∷ (pos 30 ∷ pos 4 ∷ [])
    ∷ []

-- the joint statement, and that these plans are accepted
abbrev pub TrialsTheorem : Type 0
TrialsTheorem =
    (computed ≡ printed)
    × ((plan_refusal plan_f ≡ 0) × ((plan_refusal plan_of_four ≡ 0) × ((plan_refusal star_plan ≡ 0) × (plan_refusal plan_of_points ≡ 0))))
