use Rattle.std.proofs.Common.{arith}
use Rattle.prover.proofs.Steps.{inner_lettered, not_closed, inner_paired}
use Rattle.prover.proofs.step.Goals as goal

pub returns-then-shared-ne0 : goal.returns-then-shared-ne0
returns-then-shared-ne0 c =
    record { inner = inner_lettered c.requires.0 c.args.left (omega arith) (omega arith) c.if-shared-ne0.true; ready = tt }

-- Where the code goes on, the two sides have no letter in common.
pub first_due-requires : goal.first_due-requires
first_due-requires c =
    let h = c.requires in
    (h.0, h.1, not_closed h.0 c.args.left c.if-shared-ne0.false c.in-None.ensures)

pub returns-in-Some : goal.returns-in-Some
returns-in-Some c =
    let w = inner_paired c.requires.0 c.args.left c.if-shared-ne0.false c.in-Some.p c.in-Some.ensures in
    record { inner = w.0; ready = w.1 }
