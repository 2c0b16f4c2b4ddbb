-- A run: a beginning and a draw, of every number, record and draw (rules 13.1 to 13.3). Of a run h is its stop count, n its size, l the
-- draws taken, g the ones among them.
use Rattle.std.specs.Prelude.{Bool, true, false, cond, not, ◌&&◌, ◌||◌, List, [], ◌∷◌, ℕ, ◌+◌, ◌-◌}
use Rattle.counting.specs.Tests.{le?, lt?, eq?}
use Rattle.counting.specs.declared.Run.{Run}
use Rattle.counting.specs.declared.Drawn.{Drawn}
use Rattle.counting.specs.declared.Answer.{Answer}
use Rattle.counting.specs.declared.Answer.TheVariants.{Open, Ended, Refused}

-- ---- what is judged

-- the largest size
abbrev pub size_limit : ℕ
size_limit = 50000

-- unless refused by 13: h from 1 and below n, n at most 50,000
unfoldable pub sizes_fit : ℕ → ℕ → Bool
sizes_fit h n = le? 1 h && lt? h n && le? n size_limit

-- refused by 10: g = h, or l = n - 1; n is at least 2, since 13 is judged before
unfoldable pub is_over : Run → Bool
is_over r = eq? r.ones r.stop || eq? r.taken (r.size - 1)

-- unless refused by 11: l < n, g ≤ h and g ≤ l
unfoldable pub is_sound : Run → Bool
is_sound r = lt? r.taken r.size && le? r.ones r.stop && le? r.ones r.taken

-- ---- the answer after a draw: h / l at the h-th one, else (g + 1) / n at draw n - 1, else open

unfoldable pub answer_of : Run → Answer
answer_of r =
    cond (eq? r.ones r.stop) (Ended r.stop r.taken)
    (cond (eq? r.taken (r.size - 1)) (Ended (r.ones + 1) r.size)
    Open)

-- ---- a beginning: 13

abbrev pub run_of : ℕ → ℕ → ℕ → ℕ → Run
run_of h n l g = record { stop = h; size = n; taken = l; ones = g }

abbrev pub refused : ℕ → Run → Drawn
refused number r = record { answer = Refused number; run = r }

-- a refused beginning hands back zeros
unfoldable pub begun : ℕ → ℕ → Drawn
begun h n = cond (sizes_fit h n) (record { answer = Open; run = run_of h n 0 0 }) (refused 13 (run_of 0 0 0 0))

-- ---- a draw: 13, 9, 10, 11; a refusal hands back the run that it was given

-- l rises by 1, and g by the draw
abbrev pub next_run : Run → ℕ → Run
next_run r d = run_of r.stop r.size (r.taken + 1) (r.ones + d)

unfoldable pub drawn : Run → ℕ → Drawn
drawn r d =
    cond (not (sizes_fit r.stop r.size)) (refused 13 r)
    (cond (not (le? d 1)) (refused 9 r)
    (cond (is_over r) (refused 10 r)
    (cond (not (is_sound r)) (refused 11 r)
    (record { answer = answer_of (next_run r d); run = next_run r d }))))

-- ---- what each case of an answer says in the rules

abbrev pub is_ending : Answer → Bool
is_ending Open = false
is_ending (Ended a b) = true
is_ending (Refused k) = false

-- as three numbers: 0 open; 1 ended, with numerator and denominator; 2 refused, with the number of the refusal
abbrev pub kind_of : Answer → ℕ
kind_of Open = 0
kind_of (Ended a b) = 1
kind_of (Refused k) = 2

abbrev pub first_of : Answer → ℕ
first_of Open = 0
first_of (Ended a b) = a
first_of (Refused k) = k

abbrev pub second_of : Answer → ℕ
second_of Open = 0
second_of (Ended a b) = b
second_of (Refused k) = 0

abbrev pub values_of : Answer → List ℕ
values_of a = kind_of a ∷ first_of a ∷ second_of a ∷ []
