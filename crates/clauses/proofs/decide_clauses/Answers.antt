use Rattle.clauses.proofs.Answers.{promised}
use Rattle.clauses.proofs.decide_clauses.Goals as goal

pub returns-clause-decides : goal.returns-clause-decides
returns-clause-decides c =
    let q = c.in_ok-read in
    let d = c.decide_accepted in
    rw q.ensures.bytes at (promised q.field-0.bytes.now q.field-0.accepted d.result d.ensures)
