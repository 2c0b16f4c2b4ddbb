-- Which bucket is named, in one statement (specs/Trials).
use mathlib.Core.Path.{refl}
use Rattle.walk.specs.Numbers.{le?, search_up}
use Rattle.plan.specs.Places.{any_to}
use Rattle.bucket_choice.specs.Choice.{contains, narrower, narrowest, chosen_bucket, first_bucket}
use Rattle.bucket_choice.specs.Trials.{computed, printed, TrialsTheorem}

pub trials : TrialsTheorem
unfolding computed printed le? search_up any_to contains narrower narrowest chosen_bucket first_bucket
trials = refl
