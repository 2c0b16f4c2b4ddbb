-- The turns of thresholds whose masses are read from saved bytes, one at a time, into the front of a part (specs/Inner).
use mathlib.Core.Path.{◌≡◌, refl, sym, ap, ◌∙◌}
use mathlib.Core.Bool.{false, ◌||◌}
use mathlib.Core.List.{List}
use Prim.Native.Nat.{ℕ, zero, suc, ◌+◌, ◌*◌, ◌-◌, ◌≤◌, ◌<◌, max, min}
use native.Mathlib.Numerals.{add-one}
use native.Mathlib.Omega.{arith}
use lib.IntN.{ℤ}
use lib.ListN.{length, take}
use lib.Seq.{length-take-le}
use Rattle.walk.specs.Numbers.{only, choose}
use Rattle.walk.specs.Units.{million, wide}
use Rattle.walk.specs.Walk.{below}
use Rattle.walk.specs.Row.{Row, upper, step_row}
use Rattle.walk.specs.Strings.{Upper, Lower, is_on}
use Rattle.walk.specs.Record.{first_above, row_of, record_of, padded}
use Rattle.walk.specs.Soundness.{Steppable}
use Rattle.walk.specs.declared.Mark.{Mark}
use Rattle.walk.specs.declared.Mark.TheVariants.{Open, Above, AtMost}
use Rattle.walk.specs.declared.Walked.{Walked}
use Rattle.walk.proofs.Boundaries.{above_below}
use Rattle.walk.proofs.RowSteps.{step_moves}
use Rattle.plan.specs.Places.{any_to, largest_to, smallest_to, join_to}
use Rattle.plan.specs.Plan.{count_limit, threshold_at, spending_of}
use Rattle.plan.specs.declared.Plan.{Plan}
use Rattle.plan.proofs.AcceptedLaws.{accepted}
use Rattle.plan.proofs.PlaceLists.{over-length, join_length}
use Rattle.bucket_test.specs.Turn.{wide_open, walked_on, turn_record, turn_part, MayTurn}
use Rattle.bucket_test.specs.declared.Threshold.{Threshold}
use Rattle.bucket_test.proofs.AnsweringLaws.{largest_more, smallest_more}
use Rattle.little.specs.Little.{column, filled, put_at}
use Rattle.little.proofs.Putting.{then, put_length, put_apart, put_before}
use Rattle.saved_test.specs.Form.{header_size, record_size, mass_size, record_offset, form_size, form_limit, counts_between, live_by, live_count, masses_to, record_bytes, mass_bytes}
use Rattle.saved_test.specs.Reading.{record_in, mass_offset, part_in}
use Rattle.saved_test.proofs.Judged.{gap_below, gap_live, masses_few}
use Rattle.saved_test.proofs.BytesBack.{masses_within}
use Rattle.saved_test.proofs.AlikeLaws.{gap_covers, row_same}
use Rattle.saved_test.proofs.RoundTrip.{masses_same}
use Rattle.saved_test.proofs.Sizes.{record_length, masses_length}
use Rattle.saved_test.proofs.WritingLaws.{masses_next as put-masses}
use Rattle.saved_test.proofs.ReadingLaws.{part_few, held_inside, held_next, held_front}
use Rattle.resumed_test.proofs.Simulation.{turn_by}
use Rattle.calls.specs.Inner.{Seen, new_record, new_part, new_record_bytes, new_mass_bytes, new_size, new_entries, Turns}
use Rattle.calls.specs.declared.Standing.{Standing}

-- ---- one threshold, with its masses at the front of the part q, and in the part `part`

-- more words than are live, as its record counts them
pub room_by : (w : Walked) (m : Mark) (words : ℕ) → live_by m w < words → m ≡ Open → w.upper - first_above w.lower < words
room_by w m words room is =
    let live : counts_between w.lower w.upper < words = rw is at room in
    omega (arith, gap_covers w.lower w.upper)

may_by : (a e : ℕ) (t : Threshold) (part q : List ℕ) (m : Mark) → take (live_by m t.walked) q ≡ take (live_by m t.walked) part
    → live_by m t.walked < length q → MayTurn a e m t part → MayTurn a e m t q
may_by a e t part q Open same room h =
    let row = row_same t.walked part q same in
    record {
      threshold = h.threshold;
      half = h.half;
      room = room_by t.walked Open (length q) room refl;
      signed = h.signed;
      narrow = h.narrow;
      early = h.early;
      rounded_holds = h.rounded_holds;
      small = rw row h.small;
      sound = rw row h.sound;
    }
may_by a e t part q (Above u) same room h = tt
may_by a e t part q (AtMost u) same room h = tt

-- the live masses of a record are those of its row
live_masses_lem : (f : ℕ) (w : Walked) → w.lower ≡ below f → (q q' : List ℕ) → row_of w q ≡ row_of w q' → (m : Mark) → take (live_by m w) q ≡ take (live_by m w) q'
unfolding row_of
live_masses_lem f w e q q' same Open =
    let count : counts_between w.lower w.upper ≡ w.upper - first_above w.lower =
    ap (λ (z : ℤ). counts_between z w.upper) e ∙ gap_below f w.upper ∙ ap (λ (n : ℕ). w.upper - n) (sym (ap first_above e ∙ above_below f)) in
    rw count (ap (λ (r : Row). r.masses) same)
live_masses_lem f w e q q' same (Above u) = refl
live_masses_lem f w e q q' same (AtMost u) = refl

module _ (a e n S : ℕ) (t : Threshold) (part q q' : List ℕ) where
  -- what a turn leaves at the front of q, as q', is what it leaves of `part`
  front_by : (m : Mark) → t.mark ≡ m → take (live_by m t.walked) q ≡ take (live_by m t.walked) part
      → let r = turn_record a e n S m t part in
      row_of r.walked q' ≡ row_of r.walked (turn_part a e n S m t q) → take (live_count r) q' ≡ take (live_count r) (turn_part a e n S m t part)
  unfolding walked_on record_of
  front_by Open is same row =
      let r = step_row a e (row_of t.walked part) in
      live_masses_lem r.first (record_of r) refl q' (padded r.masses)
      (row ∙ ap (λ (x : Row). row_of (record_of r) (padded (step_row a e x).masses)) (row_same t.walked part q same)) (walked_on a e n S r).mark
  front_by (Above u) is same row = rw is
  front_by (AtMost u) is same row = rw is

-- a step leaves at most 769 masses, and at most one more than before
row_grows : (a e : ℕ) (w : Walked) (part : List ℕ) → Steppable a e w part
    → let r = step_row a e (row_of w part) in
    (upper r - r.first ≤ wide) × (upper r - r.first ≤ counts_between w.lower w.upper + 1)
unfolding row_of wide
row_grows a e w part s =
    let moves = step_moves a s.threshold e s.half (row_of w part) s.sound in
    let held = length-take-le (w.upper - first_above w.lower) part (omega (arith, s.room)) in
    (omega (arith, moves.upper_slow, moves.lower_rises, held, s.narrow), omega (arith, moves.upper_slow, moves.lower_rises, held, gap_live w s.signed))

live_le : (m : Mark) (r : Row) → live_by m (record_of r) ≤ upper r - r.first
unfolding record_of
live_le Open r = omega (arith, gap_below r.first (upper r))
live_le (Above u) r = omega arith
live_le (AtMost u) r = omega arith

grows_by : (a e n S : ℕ) (t : Threshold) (part : List ℕ) (m : Mark) → t.mark ≡ m → MayTurn a e m t part
    → let r = turn_record a e n S m t part in (live_count r ≤ wide) × (live_count r ≤ live_count t + 1)
unfolding walked_on
grows_by a e n S t part Open is may =
    let r = step_row a e (row_of t.walked part) in
    let k = row_grows a e t.walked part may in
    let h = live_le (walked_on a e n S r).mark r in
    rw is (omega (arith, h, k.0), omega (arith, h, k.1))
grows_by a e n S t part (Above u) is may = rw is (omega arith, omega arith)
grows_by a e n S t part (AtMost u) is may = rw is (omega arith, omega arith)

-- ---- how records stand, one by one

pub seen_none : (p : Plan) (records : ℕ → Threshold) (s : Standing) → s ≡ record { interval = record { low = 0; high = million }; wide = false }
    → Seen p 0 records s
unfolding largest_to smallest_to any_to
seen_none p records s e = rw e (record { low = refl; high = refl; wide = refl })

pub seen_next : (p : Plan) (records : ℕ → Threshold) (i : ℕ) (s r : Standing) (t : Threshold) → t ≡ records i → Seen p i records s
    → r.interval.low ≡ max s.interval.low (only (is_on Upper t.mark) (threshold_at p i))
    → r.interval.high ≡ min s.interval.high (choose (is_on Lower t.mark) (threshold_at p i) million) → r.wide ≡ (s.wide || wide_open t)
    → Seen p (i + 1) records r
unfolding any_to
seen_next p records i s r t is h low high wides = record {
  low = (rw is at low) ∙ largest_more i _ 0 s.interval.low h.low;
  high = (rw is at high) ∙ smallest_more i _ million s.interval.high h.high;
  wide = (rw is at wides) ∙ rw (add-one i, h.wide);
}

-- ---- the thresholds that bytes hold

module _ {p : Plan} {n ones : ℕ} {bytes : List ℕ} (j : Turns p n ones bytes) where
  abbrev count : ℕ
  count = p.count

  pub few : count ≤ count_limit
  few = ((accepted p).0 j.judged).count_range.1

  abbrev pub next : ℕ → Threshold
  next = new_record p n ones bytes

  abbrev pub parts : ℕ → List ℕ
  parts = new_part p n ones bytes

  abbrev records : ℕ → List ℕ
  records = new_record_bytes p n ones bytes

  abbrev entry : ℕ → List ℕ
  entry = new_mass_bytes p n ones bytes

  abbrev pub offset : ℕ → ℕ
  offset i = record_offset count + mass_size * masses_to next i

  module _ (i : ℕ) (l : i < count) where
    abbrev held : Threshold
    held = record_in bytes i

    abbrev a : ℕ
    a = threshold_at p i

    abbrev e : ℕ
    e = spending_of p i n

    -- the record t, with its masses, which stand at an offset, read into the front of a part that has room for one more
    module _ (t : Threshold) (is : t ≡ held) (at : ℕ) (here : at ≡ mass_offset bytes count i) where
      live_held : live_count t ≡ live_count held
      live_held = ap (λ (u : Threshold). live_count u) is

      -- they are inside; and where the next stand
      pub old_next : (at + mass_size * live_count t ≤ length bytes) × (at + mass_size * live_count t ≡ mass_offset bytes count (i + 1))
      old_next = (
        held_inside bytes count j.form i l (live_count t) at live_held here,
        held_next bytes count j.form i l (live_count t) at live_held here,
      )

      module _ (part : List ℕ) (room : live_count t < length part) where
        abbrev front : List ℕ
        front = filled (live_count held) (column mass_size at mass_size bytes) part

        pub may_read : (live_count t ≤ length part) × (at + mass_size * live_count t ≤ length bytes)
        may_read = (omega arith, old_next.0)

        same : take (live_count held) front ≡ take (live_count held) (part_in bytes count i)
        same = held_front bytes count j.form i l (live_count held) at refl here front part refl (omega (arith, live_held))

        front_room : live_count held < length front
        unfolding filled
        front_room = omega (arith, live_held, room, over-length (live_count held) (λ k _. column mass_size at mass_size bytes k) part)

        -- what the turn asks, and what it gives
        module _ (q₀ : List ℕ) (read : q₀ ≡ filled (live_count t) (column mass_size at mass_size bytes) part) where
          read_is : q₀ ≡ front
          read_is = read ∙ ap (λ (k : ℕ). filled k (column mass_size at mass_size bytes) part) live_held

          pub may_turn : MayTurn a e t.mark t q₀
          may_turn = rw (is, read_is) (may_by a e held (part_in bytes count i) front held.mark same front_room (j.may i l))

          pub turned : (r : Threshold) (q : List ℕ) → r ≡ turn_record a e n ones t.mark t q₀
              → row_of r.walked q ≡ row_of r.walked (turn_part a e n ones t.mark t q₀)
              → (r ≡ next i) × (take (live_count r) q ≡ take (live_count r) (parts i))
          turned r q made row =
              let r-is : r ≡ next i = (rw (is, read_is) at made) ∙ turn_by held (part_in bytes count i) front a e n ones held.mark same in
              let k = front_by a e n ones held (part_in bytes count i) front q held.mark refl same (rw (is, read_is, r-is) at row) in
              (r-is, rw r-is k)

  pub old_small : length bytes ≤ form_limit
  unfolding form_size record_offset wide
  old_small =
      let masses = masses_few (record_in bytes) count (λ i l. part_few bytes count i l j.form.records j.form.sized) in
      omega (arith, j.form.sized, masses, few)

  -- ---- where the new masses go

  grows : (i : ℕ) → i < count → (live_count (next i) ≤ wide) × (live_count (next i) ≤ live_count (record_in bytes i) + 1)
  grows i l = grows_by _ _ n ones (record_in bytes i) (part_in bytes count i) (record_in bytes i).mark refl (j.may i l)

  pub new_few : (i : ℕ) → i ≤ count → masses_to next i ≤ wide * i
  new_few i h = masses_few next i (λ k l. (grows k (omega arith)).0)

  pub new_small : new_size p n ones bytes ≤ form_limit
  unfolding form_size record_offset wide
  new_small = omega (arith, few, new_few count (omega arith))

  module _ (i : ℕ) (l : i < count) (r : Threshold) (r-is : r ≡ next i) (live : ℕ) (live_is : live ≡ live_count r) where
    is_live_lem : live ≡ live_count (next i)
    is_live_lem = live_is ∙ ap (λ (u : Threshold). live_count u) r-is

    pub new_room : live ≤ live_count (record_in bytes i) + 1
    new_room = rw is_live_lem (grows i l).1

    pub new_live : live ≤ wide
    new_live = rw is_live_lem (grows i l).0

    pub new_masses_lem : masses_to next i + live ≡ masses_to next (i + 1)
    unfolding masses_to
    new_masses_lem = rw (add-one i, is_live_lem)

    module _ (to : ℕ) (here : to ≡ offset i) where
      pub new_inside : to + mass_size * live ≤ new_size p n ones bytes
      unfolding form_size
      new_inside = rw (here, is_live_lem) (omega (arith, masses_within next count i l))

      -- the new masses go behind those of the thresholds before, and the record behind theirs
      pub entries_next : (q : List ℕ) → take (live_count r) q ≡ take (live_count r) (parts i) → (b b₁ b₂ : List ℕ)
          → b₁ ≡ put_at header_size (join_to i records) (put_at (record_offset count) (join_to i entry) b)
          → b₂ ≡ put_at (header_size + record_size * i) (record_bytes r) (put_at to (mass_bytes live q) b₁) → new_size p n ones bytes ≤ length b
          → b₂ ≡ put_at header_size (join_to (i + 1) records) (put_at (record_offset count) (join_to (i + 1) entry) b)
      unfolding join_to form_size record_offset
      entries_next q same b b₁ b₂ f h long =
          let before = put_at (record_offset count) (join_to i entry) b in
          let after = put_at (record_offset count) (join_to (suc i) entry) b in
          let records-long : length (join_to i records) ≡ record_size * i = join_length records record_size i (λ k l. record_length (next k)) in
          let masses-long = masses_length next parts i in
          let masses-longer = masses_length next parts (suc i) in
          let within = new_inside in
          let more : masses_to next i + live ≡ masses_to next (suc i) = rw (add-one i) at new_masses_lem in
          let new : mass_bytes live q ≡ entry i = rw is_live_lem (masses_same (live_count (next i)) (parts i) q (rw r-is at same)) in
          let before-long : length before ≡ length b = put_length (record_offset count) (join_to i entry) b (omega arith) in
          let after-long : length after ≡ length b = put_length (record_offset count) (join_to (suc i) entry) b (omega (arith, masses-longer)) in
          let put : put_at to (mass_bytes live q) before ≡ after =
          rw (add-one i) at (put-masses next parts (record_offset count) i b before (put_at to (mass_bytes live q) before) refl (rw (here, new)) (omega arith)) in
          let masses_put : put_at to (mass_bytes live q) b₁ ≡ put_at header_size (join_to i records) after =
          ap (put_at to (mass_bytes live q)) f ∙ put_apart header_size to (join_to i records) (mass_bytes live q) before (omega arith) (omega arith)
          ∙ ap (put_at header_size (join_to i records)) put in
          let whole = then header_size (join_to i records) (record_bytes r) after (put_at to (mass_bytes live q) b₁) b₂ (header_size + record_size * i) masses_put h (omega arith) (omega arith) in
          rw (add-one i) (rw r-is at whole)

  -- at last, one behind the other
  pub entries_last : (b b₁ : List ℕ) → b₁ ≡ put_at header_size (join_to count records) (put_at (record_offset count) (join_to count entry) b)
      → record_offset count ≤ length b → b₁ ≡ put_at header_size (new_entries p n ones bytes) b
  unfolding record_offset
  entries_last b b₁ e long =
      let records-long : length (join_to count records) ≡ record_size * count = join_length records record_size count (λ k l. record_length (next k)) in
      e ∙ put_before header_size (record_offset count) (join_to count records) (join_to count entry) b (omega arith) long

  -- ---- how far the form grows: no threshold gains more than one mass

  masses_grow : (k : ℕ) → k ≤ count → masses_to next k ≤ masses_to (record_in bytes) k + k
  unfolding masses_to
  masses_grow zero h = omega arith
  masses_grow (suc k) h = omega (arith, masses_grow k (omega arith), (grows k (omega arith)).1)

  pub size_grows : new_size p n ones bytes ≤ length bytes + mass_size * count
  unfolding form_size
  size_grows = omega (arith, j.form.sized, masses_grow count (omega arith))
