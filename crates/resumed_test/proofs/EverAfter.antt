-- A test that was read back goes on as the test that was written (specs/EverAfter).
use Rattle.saved_test.proofs.AlikeLaws.{answer_same}
use Rattle.saved_test.proofs.TestBack.{read_back}
use Rattle.resumed_test.specs.EverAfter.{EverAfter}
use Rattle.resumed_test.proofs.Simulation.{simulation}

pub ever_after : EverAfter
ever_after p s words savable ds =
    let k = (read_back p s words savable).alike in
    simulation p _ _ (record { answer_same = answer_same p s words _ _ k; alike = k }) ds
