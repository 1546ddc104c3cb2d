use Rattle.std.proofs.Common.{sym}
use Rattle.prover.proofs.Decisions.{promised}
use Rattle.prover.proofs.decide.Goals as goal

pub returns-clause-promise : goal.returns-clause-promise
returns-clause-promise c =
    let q = c.in_ok-q in
    rw (c.verdict_of.ensures, q.ensures.bytes) (promised c.args.q.now c.args.budget (sym q.ensures.reads))
