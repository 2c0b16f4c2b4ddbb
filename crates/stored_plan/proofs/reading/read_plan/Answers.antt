-- What `read_into` left, handed back.
use mathlib.Core.Path.{refl}
use Rattle.std.proofs.lemmas.Result.{err_from_is_err_and}
use Rattle.stored_plan.specs.Reading.{no_plan}
use Rattle.stored_plan.proofs.reading.read_plan.Goals as goal

pub read_into-requires : goal.read_into-requires
unfolding no_plan
read_into-requires c = (refl, refl, refl, refl)

pub returns-in_err-read_into : goal.returns-in_err-read_into
returns-in_err-read_into c = let q = err_from_is_err_and c.from_residual.result c.from_residual.ensures.1 in rw (q.1, q.2) c.in_err-read_into.ensures
