-- Number by number.
use mathlib.Core.Path.{◌≡◌, refl, ◌∙◌}
use mathlib.Core.Bool.{Bool, ◌&&◌}
use Prim.Native.Nat.{ℕ}
use lib.Dec.{eqb}
use borrow.Author.Tests.{eq-eqb, ne_eqb}
use Rattle.plan.specs.Places.{eq?}
use Rattle.little.specs.Little.{field}
use Rattle.saved_test.specs.Form.{header_size, count_field, masses_field, record_offset_field, mass_offset_field, size_field, record_size_field, record_size, mass_size_field, mass_size}
use Rattle.saved_test.proofs.ReadingLaws.{as_read, goes_on, stops_here, regrouped}
use Rattle.saved_test.proofs.reading.header_fits.Goals.{Joined-read_u32-size}
use Rattle.saved_test.proofs.reading.header_fits.Goals.{then-read_u16-count, else-read_u16-count, then-read_u16-masses, else-read_u16-masses, then-read_u16-eq-HEADER_SIZE, else-read_u16-eq-HEADER_SIZE}
use Rattle.saved_test.proofs.reading.header_fits.Goals.{then-read_u16-offset, else-read_u16-offset, then-read_u32-size, else-read_u32-size}
use Rattle.saved_test.proofs.reading.header_fits.Goals as goal

-- the tests so far, and what the chain of them says
module _ (c : Joined-read_u32-size) where
  abbrev is : ℕ → ℕ → ℕ → Bool
  is width at x = eq? (field width at c.args.bytes.now) x

  first : eqb c.read_u16.result c.args.count ≡ is 2 count_field c.args.count
  first = as_read c.read_u16.ensures.0 c.args.count

  two : c.if-read_u16-count.value ≡ (is 2 count_field c.args.count && is 2 masses_field c.args.masses)
  two = elim c.if-read_u16-count.branch [
    | then-read_u16-count w ↦ goes_on first (eq-eqb _ _ w.if-read_u16-count.true) (w.value-is ∙ as_read w.read_u16-then-read_u16-count.ensures.0 _)
    | else-read_u16-count w ↦ stops_here _ first (ne_eqb _ _ w.if-read_u16-count.false) w.value-is
  ]

  three : c.if-read_u16-masses.value ≡ ((is 2 count_field c.args.count && is 2 masses_field c.args.masses) && is 2 record_offset_field header_size)
  three = elim c.if-read_u16-masses.branch [
    | then-read_u16-masses w ↦ goes_on two w.if-read_u16-masses.true (w.value-is ∙ as_read w.read_u16-then-read_u16-masses.ensures.0 _)
    | else-read_u16-masses w ↦ stops_here _ two w.if-read_u16-masses.false w.value-is
  ]

  four : c.if-read_u16-eq-HEADER_SIZE.value ≡ (((is 2 count_field c.args.count && is 2 masses_field c.args.masses) && is 2 record_offset_field header_size) && is 2 mass_offset_field c.args.offset)
  four = elim c.if-read_u16-eq-HEADER_SIZE.branch [
    | then-read_u16-eq-HEADER_SIZE w ↦ goes_on three w.if-read_u16-eq-HEADER_SIZE.true (w.value-is ∙ as_read w.read_u16-then-read_u16-eq-HEADER_SIZE.ensures.0 _)
    | else-read_u16-eq-HEADER_SIZE w ↦ stops_here _ three w.if-read_u16-eq-HEADER_SIZE.false w.value-is
  ]

  five : c.if-read_u16-offset.value ≡ ((((is 2 count_field c.args.count && is 2 masses_field c.args.masses) && is 2 record_offset_field header_size) && is 2 mass_offset_field c.args.offset) && is 4 size_field c.args.size)
  five = elim c.if-read_u16-offset.branch [
    | then-read_u16-offset w ↦ goes_on four w.if-read_u16-offset.true (w.value-is ∙ as_read w.read_u32.ensures.0 _)
    | else-read_u16-offset w ↦ stops_here _ four w.if-read_u16-offset.false w.value-is
  ]

  six : c.if-read_u32-size.value ≡ (((((is 2 count_field c.args.count && is 2 masses_field c.args.masses) && is 2 record_offset_field header_size) && is 2 mass_offset_field c.args.offset) && is 4 size_field c.args.size) && is 2 record_size_field record_size)
  six = elim c.if-read_u32-size.branch [
    | then-read_u32-size w ↦ goes_on five w.if-read_u32-size.true (w.value-is ∙ as_read w.read_u16-then-read_u32-size.ensures.0 _)
    | else-read_u32-size w ↦ stops_here _ five w.if-read_u32-size.false w.value-is
  ]

  all : is 2 count_field c.args.count && is 2 masses_field c.args.masses && is 2 record_offset_field header_size && is 2 mass_offset_field c.args.offset
      && is 4 size_field c.args.size && is 2 record_size_field record_size && is 2 mass_size_field mass_size
      ≡ (is 2 count_field c.args.count && (is 2 masses_field c.args.masses && (is 2 record_offset_field header_size && (is 2 mass_offset_field c.args.offset
      && (is 4 size_field c.args.size && (is 2 record_size_field record_size && is 2 mass_size_field mass_size))))))
  all = regrouped (is 2 count_field c.args.count) (is 2 masses_field c.args.masses) (is 2 record_offset_field header_size) (is 2 mass_offset_field c.args.offset)
      (is 4 size_field c.args.size) (is 2 record_size_field record_size) (is 2 mass_size_field mass_size)

pub returns-then-read_u16-eq-RECORD_SIZE : goal.returns-then-read_u16-eq-RECORD_SIZE
returns-then-read_u16-eq-RECORD_SIZE c =
    let here = (goal.at.returns-then-read_u16-eq-RECORD_SIZE c).Joined-read_u32-size in
    goes_on (six here) c.if-read_u16-eq-RECORD_SIZE.true (as_read c.read_u16-then-read_u16-eq-RECORD_SIZE.ensures.0 _) ∙ all here

pub returns-else-read_u16-eq-RECORD_SIZE : goal.returns-else-read_u16-eq-RECORD_SIZE
returns-else-read_u16-eq-RECORD_SIZE c =
    let here = (goal.at.returns-else-read_u16-eq-RECORD_SIZE c).Joined-read_u32-size in
    stops_here (is here 2 mass_size_field mass_size) (six here) c.if-read_u16-eq-RECORD_SIZE.false refl ∙ all here
