-- What a plan is read into, for inner contracts; no entry's contract cites this file.
use Rattle.std.specs.Prelude.{◌≡◌, replicate}
use Rattle.plan.specs.Plan.{count_limit, bucket_limit}
use Rattle.plan.specs.declared.Plan.{Plan}

-- zeros in the tables of thresholds and buckets, whatever else the plan holds
abbrev pub Blank : Plan → Type 0
Blank p =
    (p.thresholds ≡ replicate count_limit 0) × (p.allowances ≡ replicate count_limit 0) × (p.left ≡ replicate bucket_limit 0) × (p.right ≡ replicate bucket_limit 0)
