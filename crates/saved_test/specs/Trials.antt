-- The trials that are proved (saved 8): the bytes of tests, what is read from them, and a form of the layout before. Plan F's test at its beginning,
-- after one draw and after 11111; and a plan of two thresholds, so that none of the numbers K, n, S, marks, steps and boundaries stands for another,
-- nor a threshold for the next.
use Rattle.std.specs.Prelude.{◌≡◌, true, List, [], ◌∷◌, ◌++◌, ℕ, ◌*◌, ◌-◌, length, replicate}
use Rattle.walk.specs.Units.{wide}
use Rattle.plan.specs.PlanF.{plan_f}
use Rattle.plan.specs.declared.Plan.{Plan}
use Rattle.bucket_test.specs.Draw.{Outcome}
use Rattle.bucket_test.specs.Carried.{carried}
use Rattle.saved_test.specs.Form.{saved_form}
use Rattle.saved_test.specs.Reading.{state_in, words_in, form_fits, read_refusal}

-- thresholds 100,000 and 400,000, with allowances of almost one half: each is settled after few draws
unfoldable pub plan_of_two : Plan
plan_of_two = record {
  count = 2;
  buckets = 3;
  delay = 1;
  horizon = 200;
  points = 0;
  thresholds = 100000 ∷ 400000 ∷ replicate 8 0;
  allowances = 2199023255551 ∷ 2199023255551 ∷ replicate 8 0;
  left = 0 ∷ 100000 ∷ 400000 ∷ replicate 13 0;
  right = 100000 ∷ 400000 ∷ 1000000 ∷ replicate 13 0;
  steps = replicate 8 0;
  shares = replicate 8 0;
}

-- the test after these draws, latest first, and its form
abbrev test_after : Plan → List ℕ → Outcome
test_after p ds = carried p (replicate (wide * p.count) 0) ds

abbrev pub form_after : Plan → List ℕ → List ℕ
form_after p ds = saved_form p (test_after p ds).state (test_after p ds).words

-- the words of one threshold: the masses of its live counts, then zeros
abbrev part_of : List ℕ → List ℕ
part_of masses = masses ++ replicate (wide - length masses) 0

-- the form has these bytes; from them are read the test, and these words
abbrev pub Trial : Plan → List ℕ → List ℕ → List ℕ → Type 0
Trial p ds bytes words =
    (form_after p ds ≡ bytes) × (form_fits p bytes ≡ true) × (state_in p bytes ≡ (test_after p ds).state) × (words_in p bytes ≡ words)

-- ---- header, records, masses; in a record the number of masses rounded stands on a line of its own

unfoldable pub begun_bytes : List ℕ
begun_bytes =
    (1 ∷ 0 ∷ 1 ∷ 0 ∷ 24 ∷ 0 ∷ 60 ∷ 0 ∷ 68 ∷ 0 ∷ 0 ∷ 0 ∷ 0 ∷ 0 ∷ 0 ∷ 0 ∷ 0 ∷ 0 ∷ 0 ∷ 0 ∷ 36 ∷ 0 ∷ 8 ∷ 0 ∷ [])
    ++ ((0 ∷ 0 ∷ 0 ∷ 0 ∷ 0 ∷ 0 ∷ 0 ∷ 0 ∷ 255 ∷ 255 ∷ 255 ∷ 255 ∷ 1 ∷ replicate 19 0)
    ++ ((0 ∷ 0 ∷ 0 ∷ 0 ∷ [])
    ++ (0 ∷ 0 ∷ 0 ∷ 0 ∷ 0 ∷ 4 ∷ 0 ∷ 0 ∷ [])))

unfoldable pub one_bytes : List ℕ
one_bytes =
    (1 ∷ 0 ∷ 2 ∷ 0 ∷ 24 ∷ 0 ∷ 60 ∷ 0 ∷ 76 ∷ 0 ∷ 0 ∷ 0 ∷ 1 ∷ 0 ∷ 0 ∷ 0 ∷ 1 ∷ 0 ∷ 0 ∷ 0 ∷ 36 ∷ 0 ∷ 8 ∷ 0 ∷ [])
    ++ ((0 ∷ 0 ∷ 0 ∷ 0 ∷ 0 ∷ 0 ∷ 0 ∷ 0 ∷ 255 ∷ 255 ∷ 255 ∷ 255 ∷ 2 ∷ replicate 19 0)
    ++ ((2 ∷ 0 ∷ 0 ∷ 0 ∷ [])
    ++ ((205 ∷ 204 ∷ 204 ∷ 204 ∷ 204 ∷ 3 ∷ 0 ∷ 0 ∷ [])
    ++ (52 ∷ 51 ∷ 51 ∷ 51 ∷ 51 ∷ 0 ∷ 0 ∷ 0 ∷ []))))

unfoldable pub zero_bytes : List ℕ
zero_bytes =
    (1 ∷ 0 ∷ 2 ∷ 0 ∷ 24 ∷ 0 ∷ 60 ∷ 0 ∷ 76 ∷ 0 ∷ 0 ∷ 0 ∷ 1 ∷ 0 ∷ 0 ∷ 0 ∷ 0 ∷ 0 ∷ 0 ∷ 0 ∷ 36 ∷ 0 ∷ 8 ∷ 0 ∷ [])
    ++ ((0 ∷ 0 ∷ 0 ∷ 0 ∷ 0 ∷ 0 ∷ 0 ∷ 0 ∷ 255 ∷ 255 ∷ 255 ∷ 255 ∷ 2 ∷ replicate 19 0)
    ++ ((2 ∷ 0 ∷ 0 ∷ 0 ∷ [])
    ++ ((205 ∷ 204 ∷ 204 ∷ 204 ∷ 204 ∷ 3 ∷ 0 ∷ 0 ∷ [])
    ++ (52 ∷ 51 ∷ 51 ∷ 51 ∷ 51 ∷ 0 ∷ 0 ∷ 0 ∷ []))))

unfoldable pub ended_bytes : List ℕ
ended_bytes =
    (1 ∷ 0 ∷ 0 ∷ 0 ∷ 24 ∷ 0 ∷ 60 ∷ 0 ∷ 60 ∷ 0 ∷ 0 ∷ 0 ∷ 5 ∷ 0 ∷ 0 ∷ 0 ∷ 5 ∷ 0 ∷ 0 ∷ 0 ∷ 36 ∷ 0 ∷ 8 ∷ 0 ∷ [])
    ++ ((1 ∷ 0 ∷ 0 ∷ 0 ∷ 5 ∷ 0 ∷ 0 ∷ 0 ∷ 255 ∷ 255 ∷ 255 ∷ 255 ∷ 5 ∷ 0 ∷ 0 ∷ 0 ∷ 182 ∷ 248 ∷ 20 ∷ replicate 13 0)
    ++ (20 ∷ 0 ∷ 0 ∷ 0 ∷ []))

-- both open
unfoldable pub both_bytes : List ℕ
both_bytes =
    (2 ∷ 0 ∷ 3 ∷ 0 ∷ 24 ∷ 0 ∷ 96 ∷ 0 ∷ 120 ∷ 0 ∷ 0 ∷ 0 ∷ 1 ∷ 0 ∷ 0 ∷ 0 ∷ 0 ∷ 0 ∷ 0 ∷ 0 ∷ 36 ∷ 0 ∷ 8 ∷ 0 ∷ [])
    ++ ((0 ∷ 0 ∷ 0 ∷ 0 ∷ 0 ∷ 0 ∷ 0 ∷ 0 ∷ 255 ∷ 255 ∷ 255 ∷ 255 ∷ 1 ∷ 0 ∷ 0 ∷ 0 ∷ 103 ∷ 102 ∷ 102 ∷ 102 ∷ 102 ∷ replicate 11 0)
    ++ ((2 ∷ 0 ∷ 0 ∷ 0 ∷ [])
    ++ ((0 ∷ 0 ∷ 0 ∷ 0 ∷ 0 ∷ 0 ∷ 0 ∷ 0 ∷ 255 ∷ 255 ∷ 255 ∷ 255 ∷ 2 ∷ replicate 19 0)
    ++ ((2 ∷ 0 ∷ 0 ∷ 0 ∷ [])
    ++ ((154 ∷ 153 ∷ 153 ∷ 153 ∷ 153 ∷ 3 ∷ 0 ∷ 0 ∷ [])
    ++ ((103 ∷ 102 ∷ 102 ∷ 102 ∷ 102 ∷ 2 ∷ 0 ∷ 0 ∷ [])
    ++ (154 ∷ 153 ∷ 153 ∷ 153 ∷ 153 ∷ 1 ∷ 0 ∷ 0 ∷ [])))))))

-- 400,000 'at most' at step 3, where its lower boundary is 0; 100,000 open
unfoldable pub at_most_bytes : List ℕ
at_most_bytes =
    (2 ∷ 0 ∷ 1 ∷ 0 ∷ 24 ∷ 0 ∷ 96 ∷ 0 ∷ 104 ∷ 0 ∷ 0 ∷ 0 ∷ 3 ∷ 0 ∷ 0 ∷ 0 ∷ 0 ∷ 0 ∷ 0 ∷ 0 ∷ 36 ∷ 0 ∷ 8 ∷ 0 ∷ [])
    ++ ((0 ∷ 0 ∷ 0 ∷ 0 ∷ 0 ∷ 0 ∷ 0 ∷ 0 ∷ 255 ∷ 255 ∷ 255 ∷ 255 ∷ 1 ∷ 0 ∷ 0 ∷ 0 ∷ 223 ∷ 36 ∷ 6 ∷ 129 ∷ 21 ∷ 1 ∷ replicate 10 0)
    ++ ((6 ∷ 0 ∷ 0 ∷ 0 ∷ [])
    ++ ((2 ∷ 0 ∷ 0 ∷ 0 ∷ 3 ∷ 0 ∷ 0 ∷ 0 ∷ 0 ∷ 0 ∷ 0 ∷ 0 ∷ 2 ∷ 0 ∷ 0 ∷ 0 ∷ 198 ∷ 32 ∷ 176 ∷ 114 ∷ 104 ∷ 1 ∷ 0 ∷ 0 ∷ 191 ∷ 159 ∷ 26 ∷ 47 ∷ 221 ∷ 0 ∷ 0 ∷ 0 ∷ [])
    ++ ((8 ∷ 0 ∷ 0 ∷ 0 ∷ [])
    ++ (36 ∷ 219 ∷ 249 ∷ 126 ∷ 234 ∷ 2 ∷ 0 ∷ 0 ∷ [])))))

-- 100,000 'above' at step 2; 400,000 open, with the lower boundary 0
unfoldable pub above_bytes : List ℕ
above_bytes =
    (2 ∷ 0 ∷ 2 ∷ 0 ∷ 24 ∷ 0 ∷ 96 ∷ 0 ∷ 112 ∷ 0 ∷ 0 ∷ 0 ∷ 4 ∷ 0 ∷ 0 ∷ 0 ∷ 1 ∷ 0 ∷ 0 ∷ 0 ∷ 36 ∷ 0 ∷ 8 ∷ 0 ∷ [])
    ++ ((1 ∷ 0 ∷ 0 ∷ 0 ∷ 2 ∷ 0 ∷ 0 ∷ 0 ∷ 255 ∷ 255 ∷ 255 ∷ 255 ∷ 1 ∷ 0 ∷ 0 ∷ 0 ∷ 247 ∷ 40 ∷ 92 ∷ 143 ∷ 194 ∷ replicate 11 0)
    ++ ((4 ∷ 0 ∷ 0 ∷ 0 ∷ [])
    ++ ((0 ∷ 0 ∷ 0 ∷ 0 ∷ 0 ∷ 0 ∷ 0 ∷ 0 ∷ 0 ∷ 0 ∷ 0 ∷ 0 ∷ 3 ∷ 0 ∷ 0 ∷ 0 ∷ 198 ∷ 32 ∷ 176 ∷ 114 ∷ 104 ∷ 1 ∷ 0 ∷ 0 ∷ 191 ∷ 159 ∷ 26 ∷ 47 ∷ 221 ∷ 0 ∷ 0 ∷ 0 ∷ [])
    ++ ((10 ∷ 0 ∷ 0 ∷ 0 ∷ [])
    ++ ((127 ∷ 140 ∷ 185 ∷ 107 ∷ 9 ∷ 1 ∷ 0 ∷ 0 ∷ [])
    ++ (0 ∷ 179 ∷ 123 ∷ 242 ∷ 176 ∷ 0 ∷ 0 ∷ 0 ∷ []))))))

-- plan F's beginning in the layout before: records of 32 bytes, without that number
unfoldable pub older_bytes : List ℕ
older_bytes =
    (1 ∷ 0 ∷ 1 ∷ 0 ∷ 24 ∷ 0 ∷ 56 ∷ 0 ∷ 64 ∷ 0 ∷ 0 ∷ 0 ∷ 0 ∷ 0 ∷ 0 ∷ 0 ∷ 0 ∷ 0 ∷ 0 ∷ 0 ∷ 32 ∷ 0 ∷ 8 ∷ 0 ∷ [])
    ++ ((0 ∷ 0 ∷ 0 ∷ 0 ∷ 0 ∷ 0 ∷ 0 ∷ 0 ∷ 255 ∷ 255 ∷ 255 ∷ 255 ∷ 1 ∷ replicate 19 0)
    ++ (0 ∷ 0 ∷ 0 ∷ 0 ∷ 0 ∷ 4 ∷ 0 ∷ 0 ∷ []))

abbrev pub TrialsTheorem : Type 0
TrialsTheorem =
    Trial plan_f [] begun_bytes (part_of (4398046511104 ∷ []))
    × Trial plan_f (1 ∷ []) one_bytes (part_of (4178144185549 ∷ 219902325556 ∷ []))
    × Trial plan_f (0 ∷ []) zero_bytes (part_of (4178144185549 ∷ 219902325556 ∷ []))
    × Trial plan_f (1 ∷ 1 ∷ 1 ∷ 1 ∷ 1 ∷ []) ended_bytes (part_of [])
    × Trial plan_of_two (0 ∷ []) both_bytes (part_of (3958241859994 ∷ []) ++ part_of (2638827906663 ∷ 1759218604442 ∷ []))
    × Trial plan_of_two (0 ∷ 0 ∷ 0 ∷ []) at_most_bytes (part_of (3206175906596 ∷ []) ++ part_of [])
    × Trial plan_of_two (0 ∷ 0 ∷ 1 ∷ 0 ∷ []) above_bytes (part_of [] ++ part_of (1139973655679 ∷ 759982437120 ∷ []))
    × (read_refusal plan_f older_bytes (replicate (wide * plan_f.count) 0) ≡ 15)
