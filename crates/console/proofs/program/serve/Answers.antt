-- Each return is one way of the program.
use Prim.Native.Nat.{◌*◌}
use mathlib.Core.Path.{refl}
use native.Mathlib.Omega.{arith}
use Rattle.refusals.proofs.RefusalLaws.{number_is}
use Rattle.walk.specs.Units.{wide}
use Rattle.std.specs.Io.KnownBytes.{Consumes}
use Rattle.std.proofs.KnownBytes.{Consumes-nil}
use Rattle.console.proofs.Programs.{serves_refused, serves_8, serves}
use Rattle.console.proofs.program.serve.Goals as goal

pub returns-in-Err : goal.returns-in-Err
returns-in-Err g c =
    let line = c.refused_line.ensures in
    let known = g.R.Read.remaining c.args.input.now in
    let printed = serves_refused (Consumes known known) _ _ _ _ _ _ c.in-Err.ensures (Consumes-nil known) (number_is _) (rw c.number.ensures at line.upper_bound.1) in
    record { prefix_len = line.prefix_len; prints = printed.0; given = printed }

pub returns-then-words-m : goal.returns-then-words-m
unfolding wide
returns-then-words-m g c =
    let line = c.refused_line-then-words-m.ensures in
    let known = g.R.Read.remaining c.args.input.now in
    let printed = serves_8 (Consumes known known) _ _ _ _ _ _ c.in-Ok.ensures refl (Consumes-nil known) c.if-words-m.true (rw c.number-then-words-m.ensures at line.upper_bound.1) in
    record { prefix_len = line.prefix_len; prints = printed.0; given = printed }

pub returns : goal.returns
unfolding wide
returns g c =
    let a = c.args in
    let m = 769 * c.in-Ok.p.count in
    let played = c.play.ensures in
    let read = Consumes (g.R.Read.remaining a.input.now) (g.R.Read.remaining c.play.new.input) in
    let printed = serves read a.stored.now a.words.now _ _ _ _ c.in-Ok.ensures refl m (omega arith) (omega arith) _ played.given in
    record { prefix_len = played.prefix_len; prints = printed.0; given = printed }
