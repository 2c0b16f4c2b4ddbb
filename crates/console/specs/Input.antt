-- The characters of standard input as draws (rules 9.1).
use Rattle.std.specs.Prelude.{cond, List, [], ◌∷◌, ℕ}
use Rattle.walk.specs.Numbers.{choose}
use Rattle.plan.specs.Places.{eq?}
use Rattle.console.specs.Ascii.{newline, digit0, digit1}

-- `0` and `1` are draws; any other character is one that refusal 9 refuses
unfoldable pub draw_of : ℕ → ℕ
draw_of c = choose (eq? c digit0) 0 (choose (eq? c digit1) 1 2)

-- a newline is skipped
unfoldable pub draws_of : List ℕ → List ℕ
draws_of [] = []
draws_of (c ∷ cs) = cond (eq? c newline) (draws_of cs) (draw_of c ∷ draws_of cs)
