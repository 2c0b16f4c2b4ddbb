-- Header, then records.
use mathlib.Core.Path.{◌≡◌, ap, ◌∙◌}
use Prim.Native.Nat.{ℕ}
use native.Mathlib.Omega.{arith}
use borrow.Author.Rules.{rules}
use lib.ListN.{length}
use Rattle.little.specs.Little.{put_at}
use Rattle.bucket_test.specs.Turn.{no_record}
use Rattle.saved_test.specs.Form.{record_offset, header, saved_masses}
use Rattle.saved_test.proofs.WritingLaws.{front_put, few_masses, masses_counted, records_counted}
use Rattle.saved_test.proofs.writing.write_front.Goals.{After-masses_of}
use Rattle.saved_test.proofs.writing.write_front.Goals as goal

pub split_at-requires : goal.split_at-requires
split_at-requires c = let long : length c.args.s.now.records ≡ 10 = search rules in omega (arith, c.requires.0)

pub masses_of-requires : goal.masses_of-requires
masses_of-requires c = omega (arith, c.split_at.ensures.front_len, c.requires.0)

masses : (c : After-masses_of) → c.masses_of.result ≡ saved_masses c.args.p.now c.args.s.now
masses c =
    c.masses_of.ensures ∙ masses_counted c.args.p.now c.args.s.now _ c.split_at.ensures.front_len (λ i l. c.split_at.ensures.by_index.1 i no_record l)

pub write_header-requires : goal.write_header-requires
unfolding record_offset
write_header-requires c =
    let few = few_masses c.args.p.now c.args.s.now _ (masses (goal.at.write_header-requires c).After-masses_of) c.requires.0 c.requires.1 in
    (c.requires.0, omega (arith, c.requires.2), few)

pub write_records-requires : goal.write_records-requires
unfolding record_offset
write_records-requires c = let long = c.split_at.ensures.front_len in (omega (arith, long, c.requires.0), omega (arith, long, c.requires.2))

pub returns : goal.returns
returns c =
    let p = c.args.p.now in
    let s = c.args.s.now in
    let e = c.split_at.ensures in
    front_put p s c.args.bytes.now _ _
    (c.write_header.ensures ∙ ap (λ (m : ℕ). put_at 0 (header p.count m s.n s.ones) c.args.bytes.now) (masses (goal.at.returns c).After-masses_of))
    (rw (records_counted p s _ e.front_len (λ i l. e.by_index.1 i no_record l)) at c.write_records.ensures)
