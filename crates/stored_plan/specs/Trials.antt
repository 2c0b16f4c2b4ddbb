-- Plan F's stored form, 44 bytes (rules 11); damaged forms, with the refusals in their order (rules 8.2); and plans with points.
use Rattle.std.specs.Prelude.{◌≡◌, List, [], ◌∷◌, ◌++◌, map, ℕ, length, take, set, replicate}
use Rattle.plan.specs.Plan.{count_limit, bucket_limit}
use Rattle.plan.specs.PlanF.{plan_f}
use Rattle.plan.specs.Trials.{pointed_plan, plan_of_points}
use Rattle.stored_plan.specs.Form.{form_size, form_limit, encoded}
use Rattle.stored_plan.specs.Reading.{no_plan, decoded}
use Rattle.stored_plan.specs.Writing.{written, bytes_after}

unfoldable pub plan_f_bytes : List ℕ
plan_f_bytes =
    -- one threshold, two buckets, the offsets 16 and 28, k 1000, N 200
    (1 ∷ 0 ∷ 2 ∷ 0 ∷ 16 ∷ 0 ∷ 28 ∷ 0 ∷ 232 ∷ 3 ∷ 0 ∷ 0 ∷ 200 ∷ 0 ∷ 0 ∷ 0 ∷ [])
    -- 50,000 with allowance 4,398,046,511
    ++ ((80 ∷ 195 ∷ 0 ∷ 0 ∷ 47 ∷ 221 ∷ 36 ∷ 6 ∷ 1 ∷ 0 ∷ 0 ∷ 0 ∷ [])
    -- 0 to 50,000, and 50,000 to 1,000,000
    ++ (0 ∷ 0 ∷ 0 ∷ 0 ∷ 80 ∷ 195 ∷ 0 ∷ 0 ∷ 80 ∷ 195 ∷ 0 ∷ 0 ∷ 64 ∷ 66 ∷ 15 ∷ 0 ∷ []))

-- the same with threshold 0
abbrev no_threshold : List ℕ
no_threshold = set (set plan_f_bytes 16 0) 17 0

unfoldable pub damaged : List (List ℕ)
damaged =
    -- under 16 bytes
    [] ∷ replicate 15 0
    -- K is 0; K is 11, and the offset wrong; B is 17, and the length wrong
    ∷ replicate 16 0 ∷ set plan_f_bytes 0 11 ∷ set plan_f_bytes 2 17
    -- an offset wrong, and the threshold
    ∷ set no_threshold 4 12 ∷ set no_threshold 6 29
    -- a byte too few, one too many, and the threshold wrong
    ∷ take 43 no_threshold ∷ (no_threshold ++ (0 ∷ []))
    -- the threshold wrong; N is 65,736
    ∷ no_threshold ∷ set plan_f_bytes 14 1 ∷ []

unfoldable pub damages : List ℕ
damages = 7 ∷ 7 ∷ 1 ∷ 1 ∷ 1 ∷ 7 ∷ 7 ∷ 7 ∷ 7 ∷ 2 ∷ 4 ∷ []

-- the longest form; plan F is its bytes, both ways; the refusals of damaged forms; and of a plan that is written: a byte too few, no byte more than the form, two
-- more, and a refused plan into no bytes; a plan with points into no bytes and into 44, and one with a point at step 0
abbrev pub TrialsTheorem : Type 0
TrialsTheorem =
    (form_size count_limit bucket_limit ≡ form_limit) × (length plan_f_bytes ≡ 44) × (encoded plan_f ≡ plan_f_bytes) × (decoded plan_f_bytes ≡ record { refusal = 0; plan = plan_f })
    × (map (λ bytes. (decoded bytes).refusal) damaged ≡ damages)
    × (written plan_f (replicate 43 9) ≡ record { refusal = 12; size = 0 }) × (bytes_after plan_f (replicate 43 9) ≡ replicate 43 9)
    × (written plan_f (replicate 44 9) ≡ record { refusal = 0; size = 44 }) × (bytes_after plan_f (replicate 44 9) ≡ plan_f_bytes)
    × (written plan_f (replicate 46 9) ≡ record { refusal = 0; size = 44 }) × (bytes_after plan_f (replicate 46 9) ≡ plan_f_bytes ++ replicate 2 9)
    × (written no_plan [] ≡ record { refusal = 1; size = 0 })
    × (written plan_of_points [] ≡ record { refusal = 17; size = 0 }) × (written plan_of_points (replicate 44 9) ≡ record { refusal = 17; size = 0 })
    × (bytes_after plan_of_points (replicate 44 9) ≡ replicate 44 9) × (written (pointed_plan (0 ∷ []) (1 ∷ [])) [] ≡ record { refusal = 16; size = 0 })
