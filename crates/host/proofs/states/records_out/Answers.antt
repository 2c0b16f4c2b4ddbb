-- An array whose elements are turned one by one.
use Rattle.std.proofs.Common.{rules}
use Rattle.host.specs.States.{record_out}
use Rattle.host.proofs.Copies.{mapped}
use Rattle.host.proofs.states.records_out.Goals as goal

pub returns : goal.returns
returns c =
    let m = c.map.ensures.items in
    mapped record_out _ _ (search rules) (λ i d e l. let z = (m.at i d e (search (rules, l))).2.met in search (rules, z))
