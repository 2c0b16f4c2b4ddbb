-- The refusals in their order, then the words.
use mathlib.Core.Path.{◌≡◌, refl, sym, ◌∙◌}
use mathlib.Core.Bool.{true}
use Prim.Native.Nat.{◌+◌, ◌*◌, ◌≤◌}
use native.Mathlib.Omega.{arith}
use lib.ListN.{length}
use Rattle.walk.specs.Units.{wide}
use Rattle.walk.proofs.Tests.{le?_sound, le?_complete}
use Rattle.refusals.proofs.RefusalLaws.{kept, broken}
use Rattle.plan.specs.Plan.{count_limit, plan_refusal}
use Rattle.bucket_test.specs.Words.{words_fit}
use Rattle.bucket_test.specs.Turn.{no_record}
use borrow.Author.Rules.{rules}
use Rattle.bucket_test.proofs.PartLaws.{words_say}
use Rattle.saved_test.specs.Form.{header_size, record_size, mass_size, record_offset, form_size, saved_masses, saved_size}
use Rattle.saved_test.specs.Writing.{save_refusal, write_refusal}
use Rattle.saved_test.proofs.ReadingLaws.{as_read}
use Rattle.saved_test.proofs.WritingLaws.{counts_few, words_size, live_few, size_is, as_room, masses_counted, few_counted, entries_counted, few_masses, form_put, write_refused, write_plan, write_none}
use Rattle.saved_test.proofs.writing.write_test.Goals.{In_ok-judge, In_ok-ensure, In_ok-ensure-2, In_ok-ensure-3, After-masses_of}
use Rattle.saved_test.proofs.writing.write_test.Goals as goal

-- ---- what was passed, in its order

accepts : (c : In_ok-judge) → plan_refusal c.args.p.now ≡ 0
accepts c = sym c.in_ok-judge.ensures

fits : (c : In_ok-ensure) → words_fit c.args.p.now c.args.words.now ≡ true
unfolding wide words_fit
fits c = kept (as_read refl _) _ c.in_ok-ensure.ensures

may : (c : In_ok-ensure-2) → save_refusal c.args.p.now c.args.s.now c.args.words.now ≡ 0
unfolding save_refusal words_fit wide
may c =
    let fits = kept (as_read {r = length c.args.words.now} refl (wide * c.args.p.now.count)) _ c.in_ok-ensure.ensures in
    rw (← c.in_ok-judge.ensures, fits, kept c.state_sound.ensures _ c.in_ok-ensure-2.ensures)

-- the masses, the size, and its room
masses : (c : After-masses_of) → c.masses_of.result ≡ saved_masses c.args.p.now c.args.s.now
masses c =
    c.masses_of.ensures ∙ masses_counted c.args.p.now c.args.s.now _ c.split_at.ensures.front_len (λ i l. c.split_at.ensures.by_index.1 i no_record l)

few : (c : After-masses_of) → c.masses_of.result ≡ saved_masses c.args.p.now c.args.s.now → save_refusal c.args.p.now c.args.s.now c.args.words.now ≡ 0
    → c.masses_of.result ≤ wide * count_limit
few c is ok = few_masses c.args.p.now c.args.s.now _ is (counts_few _ _ _ ok) (live_few _ _ _ ok)

size : (c : After-masses_of) → header_size + record_size * c.args.p.now.count + mass_size * c.masses_of.result ≡ saved_size c.args.p.now c.args.s.now
size c = size_is c.args.p.now c.args.s.now _ (masses c)

room : (c : In_ok-ensure-3) → c.masses_of.result ≡ saved_masses c.args.p.now c.args.s.now → saved_size c.args.p.now c.args.s.now ≤ length c.args.bytes.now
room c is = le?_sound _ _ (kept (as_room (size_is c.args.p.now c.args.s.now _ is) (length c.args.bytes.now)) _ c.in_ok-ensure-3.ensures)

-- ---- the needs

pub state_sound-requires : goal.state_sound-requires
state_sound-requires c = (accepts (goal.at.state_sound-requires c).In_ok-judge, (words_say _ _).0 (fits (goal.at.state_sound-requires c).In_ok-ensure))

pub masses_of-requires : goal.masses_of-requires
masses_of-requires c =
    let k = counts_few _ _ _ (may (goal.at.masses_of-requires c).In_ok-ensure-2) in omega (arith, c.split_at.ensures.front_len)

pub split_at-requires : goal.split_at-requires
split_at-requires c =
    let long : length c.args.s.now.records ≡ 10 = search rules in
    let k = counts_few _ _ _ (may (goal.at.split_at-requires c).In_ok-ensure-2) in omega arith

pub overflow_mul-size-2 : goal.overflow_mul-size-2
unfolding wide
overflow_mul-size-2 c =
    let here = (goal.at.overflow_mul-size-2 c).After-masses_of in
    let k = few here (masses here) (may (goal.at.overflow_mul-size-2 c).In_ok-ensure-2) in omega arith

pub overflow_add-size-2 : goal.overflow_add-size-2
unfolding wide
overflow_add-size-2 c =
    let here = (goal.at.overflow_add-size-2 c).After-masses_of in
    let ok = may (goal.at.overflow_add-size-2 c).In_ok-ensure-2 in
    let k = few here (masses here) ok in omega (arith, counts_few _ _ _ ok)

pub write_masses-requires : goal.write_masses-requires
unfolding form_size record_offset
write_masses-requires c =
    let ok = may (goal.at.write_masses-requires c).In_ok-ensure-2 in
    let is = masses (goal.at.write_masses-requires c).After-masses_of in
    let e = c.split_at.ensures in
    let p = c.args.p.now in
    let s = c.args.s.now in (
      omega (arith, e.front_len, counts_few _ _ _ ok),
      rw e.front_len (words_size _ _ _ ok),
      few_counted p s _ e.front_len (λ i l. e.by_index.1 i no_record l) (live_few _ _ _ ok),
      rw (masses_counted p s _ e.front_len (λ i l. e.by_index.1 i no_record l), e.front_len) (room (goal.at.write_masses-requires c).In_ok-ensure-3 is),
    )

pub write_front-requires : goal.write_front-requires
unfolding form_size record_offset
write_front-requires c =
    let ok = may (goal.at.write_front-requires c).In_ok-ensure-2 in
    let is = masses (goal.at.write_front-requires c).After-masses_of in
    (counts_few _ _ _ ok, live_few _ _ _ ok, omega (arith, room (goal.at.write_front-requires c).In_ok-ensure-3 is))

-- ---- what is handed back

pub returns-in_err-judge : goal.returns-in_err-judge
returns-in_err-judge c = write_refused _ _ _ _ _ _ c.from_residual.ensures.1 (write_plan _ _ _ _ _ c.in_err-judge.ensures)

pub returns-in_err-ensure : goal.returns-in_err-ensure
unfolding write_refusal save_refusal words_fit wide
returns-in_err-ensure c =
    let b = broken (as_read {r = length c.args.words.now} refl (wide * c.args.p.now.count)) _ _ c.in_err-ensure.ensures in
    write_refused _ _ _ _ _ _ c.from_residual-in_err-ensure.ensures.1 (rw (accepts (goal.at.returns-in_err-ensure c).In_ok-judge, b.0) b.1)

pub returns-in_err-ensure-2 : goal.returns-in_err-ensure-2
unfolding write_refusal save_refusal
returns-in_err-ensure-2 c =
    let b = broken c.state_sound.ensures _ _ c.in_err-ensure-2.ensures in
    write_refused _ _ _ _ _ _ c.from_residual-in_err-ensure-2.ensures.1
    (rw (accepts (goal.at.returns-in_err-ensure-2 c).In_ok-judge, fits (goal.at.returns-in_err-ensure-2 c).In_ok-ensure, b.0) b.1)

pub returns-in_err-ensure-3 : goal.returns-in_err-ensure-3
unfolding write_refusal
returns-in_err-ensure-3 c =
    let b = broken (as_room (size (goal.at.returns-in_err-ensure-3 c).After-masses_of) (length c.args.bytes.now)) _ _ c.in_err-ensure-3.ensures in
    write_refused _ _ _ _ _ _ c.from_residual-in_err-ensure-3.ensures.1 (rw (may (goal.at.returns-in_err-ensure-3 c).In_ok-ensure-2, b.0) b.1)

pub returns : goal.returns
unfolding write_refusal record_offset form_size
returns c =
    let here = (goal.at.returns c).After-masses_of in
    let room = room (goal.at.returns c).In_ok-ensure-3 (masses here) in
    let e = c.split_at.ensures in
    let p = c.args.p.now in
    let s = c.args.s.now in
    let put = rw (entries_counted p s _ e.front_len (λ i l. e.by_index.1 i no_record l) c.args.words.now, e.front_len) at c.write_masses.ensures in
    write_none p s _ _ (rw (may (goal.at.returns c).In_ok-ensure-2, le?_complete _ _ room)) _ (size here) _
    (form_put p s _ _ _ _ put c.write_front.ensures (omega (arith, room)))
