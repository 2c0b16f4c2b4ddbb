-- The trials that are proved (rules 13.6): what is computed from the definitions beside what the rules print, a line each.
use Rattle.std.specs.Prelude.{◌≡◌, List, [], ◌∷◌, ℕ, length}
use Rattle.counting.specs.Run.{run_of, begun, drawn, values_of}
use Rattle.counting.specs.Stopping.{ending}
use Rattle.counting.specs.Orders.{orders}
use Rattle.counting.specs.Share.{draws, answer_to, orders_at_most}

-- the run of h and n over these draws
abbrev comes_to : ℕ → ℕ → List ℕ → List ℕ
comes_to h n ds = values_of (ending (begun h n).run ds)

-- a beginning; the draw d to a run of h and n with l draws and g ones
abbrev beginning : ℕ → ℕ → List ℕ
beginning h n = values_of (begun h n).answer

abbrev drawing : ℕ → ℕ → ℕ → ℕ → ℕ → List ℕ
drawing h n l g d = values_of (drawn (run_of h n l g) d).answer

abbrev results : List ℕ
results = 2 ∷ 3 ∷ 1 ∷ 4 ∷ []

unfoldable pub computed : List (List ℕ)
computed =
    -- h = 1, n = 2
    comes_to 1 2 (1 ∷ [])
    ∷ comes_to 1 2 (0 ∷ [])
    -- h = 2, n = 4
    ∷ comes_to 2 4 (1 ∷ 1 ∷ [])
    ∷ comes_to 2 4 (0 ∷ 1 ∷ 1 ∷ [])
    ∷ comes_to 2 4 (0 ∷ 0 ∷ 1 ∷ [])
    ∷ comes_to 2 4 (0 ∷ 0 ∷ 0 ∷ [])
    -- 13: h from 1, below n, n up to 50,000, of a beginning and of a draw, before 9
    ∷ beginning 0 2
    ∷ beginning 1 2
    ∷ beginning 2 2
    ∷ beginning 7 3
    ∷ beginning 49999 50000
    ∷ beginning 1 50001
    ∷ drawing 0 2 0 0 2
    ∷ drawing 5 5 0 0 1
    ∷ drawing 1 50001 0 0 0
    -- 9, before 10 and 11
    ∷ drawing 2 5 0 0 2
    ∷ drawing 2 5 3 2 2
    ∷ drawing 2 5 5 1 255
    -- 10: g = h or l = n - 1, before 11
    ∷ drawing 2 5 3 2 1
    ∷ drawing 2 5 4 1 0
    ∷ drawing 2 5 5 2 1
    ∷ drawing 2 5 4 3 1
    -- 11: l = n, g = h + 1, g = l + 1; each far outside; and just inside
    ∷ drawing 2 5 5 1 1
    ∷ drawing 2 5 3 3 1
    ∷ drawing 3 5 1 2 1
    ∷ drawing 2 5 4294967295 1 1
    ∷ drawing 2 50000 40000 30000 1
    ∷ drawing 40000 50000 1 30000 1
    ∷ drawing 2 5 3 1 1
    ∷ drawing 2 5 3 1 0
    ∷ drawing 3 5 2 2 0
    ∷ drawing 2 5 2 1 1
    -- one order: its draws, and its answer with h = 2; a tie draws 1
    ∷ draws results
    ∷ draws (2 ∷ 2 ∷ 3 ∷ 1 ∷ [])
    ∷ values_of (answer_to 2 4 results)
    -- the orders of four results; with h = 2, those with an answer at most 2/2, 2/3, 2/4, 1/4
    ∷ (length (orders results) ∷ [])
    ∷ (orders_at_most 2 4 results 2 2 ∷ orders_at_most 2 4 results 2 3 ∷ orders_at_most 2 4 results 2 4 ∷ orders_at_most 2 4 results 1 4 ∷ [])
    ∷ []

-- as numbers
abbrev answered_open : List ℕ
answered_open = 0 ∷ 0 ∷ 0 ∷ []

abbrev refused_by : ℕ → List ℕ
refused_by number = 2 ∷ number ∷ 0 ∷ []

unfoldable pub printed : List (List ℕ)
printed =
    (1 ∷ 1 ∷ 1 ∷ [])
    ∷ (1 ∷ 1 ∷ 2 ∷ [])
    -- h = 2, n = 4
    ∷ (1 ∷ 2 ∷ 2 ∷ [])
    ∷ (1 ∷ 2 ∷ 3 ∷ [])
    ∷ (1 ∷ 2 ∷ 4 ∷ [])
    ∷ (1 ∷ 1 ∷ 4 ∷ [])
    -- 13
    ∷ refused_by 13
    ∷ answered_open
    ∷ refused_by 13
    ∷ refused_by 13
    ∷ answered_open
    ∷ refused_by 13
    ∷ refused_by 13
    ∷ refused_by 13
    ∷ refused_by 13
    -- 9
    ∷ refused_by 9
    ∷ refused_by 9
    ∷ refused_by 9
    -- 10
    ∷ refused_by 10
    ∷ refused_by 10
    ∷ refused_by 10
    ∷ refused_by 10
    -- 11
    ∷ refused_by 11
    ∷ refused_by 11
    ∷ refused_by 11
    ∷ refused_by 11
    ∷ refused_by 11
    ∷ refused_by 11
    ∷ (1 ∷ 2 ∷ 4 ∷ [])
    ∷ (1 ∷ 2 ∷ 5 ∷ [])
    ∷ answered_open
    ∷ (1 ∷ 2 ∷ 3 ∷ [])
    -- the order
    ∷ (1 ∷ 0 ∷ 1 ∷ [])
    ∷ (1 ∷ 1 ∷ 0 ∷ [])
    ∷ (1 ∷ 2 ∷ 3 ∷ [])
    -- the shares
    ∷ (24 ∷ [])
    ∷ (24 ∷ 16 ∷ 12 ∷ 6 ∷ [])
    ∷ []

-- the joint statement
abbrev pub TrialsTheorem : Type 0
TrialsTheorem = computed ≡ printed
