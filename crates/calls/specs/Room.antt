-- Lent bytes as many as the longest form has are always enough (saved 6).
use Rattle.std.specs.Prelude.{◌≡◌, true, List, ℕ, ◌≤◌, length}
use Rattle.bucket_test.specs.Draw.{draw_refusal}
use Rattle.stored_plan.specs.Reading.{decoded}
use Rattle.saved_test.specs.Form.{form_limit}
use Rattle.saved_test.specs.Reading.{state_in, words_in, form_fits}
use Rattle.calls.specs.Calls.{called_begin, called_draw}

-- then a beginning that the plan bytes allow is answered, and a draw that nothing before 12 refuses
abbrev pub RoomTheorem : Type 0
RoomTheorem = (planBytes lent : List ℕ) → form_limit ≤ length lent → (decoded planBytes).refusal ≡ 0
    → (100 ≤ (called_begin planBytes lent).number)
    × ((saved : List ℕ) (d : ℕ) → let p = (decoded planBytes).plan in
    form_fits p saved ≡ true → draw_refusal p (state_in p saved) (words_in p saved) d ≡ 0 → 100 ≤ (called_draw planBytes saved d lent).number)
