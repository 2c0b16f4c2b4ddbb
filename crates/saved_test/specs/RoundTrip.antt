-- What is proved of tests and their saved forms, as statements (saved 4). The proofs are in proofs/RoundTrip.
use Rattle.std.specs.Prelude.{◌≡◌, ◌↔◌, List, ◌++◌, ℕ, ◌*◌, ◌^◌, ◌≤◌, ◌<◌, length, take, drop, get_or, replicate}
use Rattle.std.specs.Int.{w32}
use Rattle.std.proofs.Common.{SFits}
use Rattle.walk.specs.Units.{wide}
use Rattle.walk.specs.declared.Walked.{Walked}
use Rattle.plan.specs.Plan.{count_limit}
use Rattle.plan.specs.declared.Plan.{Plan}
use Rattle.bucket_test.specs.Words.{part_at}
use Rattle.bucket_test.specs.Turn.{start_record, record_at}
use Rattle.bucket_test.specs.Draw.{no_state}
use Rattle.bucket_test.specs.declared.State.{State}
use Rattle.little.specs.Little.{Bytes}
use Rattle.saved_test.specs.Form.{form_limit, live_count, saved_size, saved_form}
use Rattle.saved_test.specs.Writing.{save_refusal, saved, bytes_after}
use Rattle.saved_test.specs.Reading.{state_in, words_in, read_refusal, loaded, words_after}
use Rattle.saved_test.specs.Alike.{Alike}

-- boundaries and spent masses are those of their types, i32, u32, u64 and u64, as of every record in code: 11 does not judge them of a settled one
pub record Typed (w : Walked) : Type 0 where
  pub lower_fits : SFits w32 w.lower
  pub upper_fits : w.upper < 256 ^ 4
  pub over_fits : w.over < 256 ^ 8
  pub under_fits : w.under < 256 ^ 8

-- a test that a writing accepts where there is room
pub record Savable (p : Plan) (s : State) (words : List ℕ) : Type 0 where
  pub accepted : save_refusal p s words ≡ 0
  pub typed : (i : ℕ) → i < p.count → Typed (record_at s i).walked

-- a test that was read back: alike the one that was written, zeros in all other words, and records past K as at a beginning
pub record ReadBack (p : Plan) (s : State) (words : List ℕ) (s' : State) (words' : List ℕ) : Type 0 where
  pub alike : Alike p s words s' words'
  pub zeros : (i : ℕ) → i < p.count → (j : ℕ) → live_count (record_at s i) ≤ j → get_or (part_at i words') j 0 ≡ 0
  pub past : drop p.count s'.records ≡ drop p.count (replicate count_limit start_record)
  pub places : length s'.records ≡ count_limit

-- the form of such a test is read, into any words of the right number, and is the test
abbrev pub TestBack : Type 0
TestBack = (p : Plan) (s : State) (words lent : List ℕ) → Savable p s words → length lent ≡ wide * p.count
    → let form = saved_form p s words in
    (read_refusal p form lent ≡ 0) × ReadBack p s words (state_in p form) (words_in p form)

-- accepted bytes hold a test that a writing accepts; read and written, they are the same bytes
abbrev pub BytesBack : Type 0
BytesBack = (p : Plan) (bytes lent : List ℕ) → Bytes bytes → read_refusal p bytes lent ≡ 0
    → Savable p (state_in p bytes) (words_in p bytes) × (saved_form p (state_in p bytes) (words_in p bytes) ≡ bytes)

-- both of what the entries hand back: what was written into lent bytes is read as the test ..
abbrev pub WrittenBack : Type 0
WrittenBack = (p : Plan) (s : State) (words bytes lent : List ℕ) → ((i : ℕ) → i < p.count → Typed (record_at s i).walked)
    → (saved p s words bytes).refusal ≡ 0 → length lent ≡ wide * p.count
    → let form = take (saved p s words bytes).size (bytes_after p s words bytes) in
    ((loaded p form lent).refusal ≡ 0) × ReadBack p s words (loaded p form lent).state (words_after p form lent)

-- .. and accepted bytes, read, then written into lent bytes that are long enough, stand at their start, and the rest is as it was
abbrev pub LoadedBack : Type 0
LoadedBack = (p : Plan) (bytes words lent : List ℕ) → Bytes bytes → (loaded p bytes words).refusal ≡ 0 → length bytes ≤ length lent
    → let s = (loaded p bytes words).state in
    let ws = words_after p bytes words in
    (saved p s ws lent ≡ record { refusal = 0; size = length bytes }) × (bytes_after p s ws lent ≡ bytes ++ drop (length bytes) lent)

-- reading accepts exactly the forms of tests that a writing accepts
abbrev pub AcceptedForms : Type 0
AcceptedForms = (p : Plan) (bytes lent : List ℕ) → Bytes bytes → length lent ≡ wide * p.count
    → (read_refusal p bytes lent ≡ 0) ↔ ((s : State) × (words : List ℕ) × Savable p s words × (bytes ≡ saved_form p s words))

-- equal tests have equal bytes, whatever stands in the rest
abbrev pub SameBytes : Type 0
SameBytes = (p : Plan) (s : State) (words : List ℕ) (s' : State) (words' : List ℕ)
    → Alike p s words s' words' → saved_form p s' words' ≡ saved_form p s words

-- a form has the length that its counts say, at most the longest
abbrev pub FormLength : Type 0
FormLength = (p : Plan) (s : State) (words : List ℕ) → save_refusal p s words ≡ 0
    → (length (saved_form p s words) ≡ saved_size p s) × (saved_size p s ≤ form_limit)

-- a refused reading hands back no state and leaves every word as it was, a refused writing every byte
abbrev pub NoneOnRefusal : Type 0
NoneOnRefusal = ((p : Plan) (bytes words : List ℕ) → ¬ ((loaded p bytes words).refusal ≡ 0)
    → ((loaded p bytes words).state ≡ no_state) × (words_after p bytes words ≡ words))
    × ((p : Plan) (s : State) (words bytes : List ℕ) → ¬ ((saved p s words bytes).refusal ≡ 0)
    → ((saved p s words bytes).size ≡ 0) × (bytes_after p s words bytes ≡ bytes))
