-- The trials, in one statement.
use mathlib.Core.Path.{refl}
use mathlib.Core.List.{flat_map}
use Rattle.counting.specs.Tests.{le?, eq?}
use Rattle.counting.specs.Run.{sizes_fit, is_over, is_sound, answer_of, begun, drawn}
use Rattle.counting.specs.Stopping.{ending}
use Rattle.counting.specs.Orders.{orders}
use Rattle.counting.specs.Share.{answer_to, orders_at_most}
use Rattle.counting.specs.Trials.{computed, printed, TrialsTheorem}

pub trials : TrialsTheorem
unfolding computed printed le? eq? sizes_fit is_over is_sound answer_of begun drawn ending orders flat_map answer_to orders_at_most
trials = refl
