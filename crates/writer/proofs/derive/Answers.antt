use Rattle.prover.proofs.Decisions.{budget_left}
use Rattle.writer.proofs.Answering.{theorem_is, theorem_evidence}
use Rattle.writer.proofs.derive.Goals as goal

pub report-v-requires : goal.report-v-requires
report-v-requires c = budget_left c.in_ok-q.q.bytes.now c.args.budget c.outcome_of-o.result c.outcome_of-o.ensures

pub write_out-requires : goal.write_out-requires
write_out-requires c =
    let q = c.in_ok-q.q in
    let o = c.outcome_of-o in
    theorem_is q.bytes.now c.args.budget q.accepted o.result o.ensures c.report-v.result c.report-v.ensures c.in-Theorem.is

pub returns-clause-evidence : goal.returns-clause-evidence
returns-clause-evidence c =
    let q = c.in_ok-q in
    let o = c.outcome_of-o in
    let v = c.report-v in
    rw (← q.ensures.bytes) (theorem_evidence q.q.bytes.now c.args.budget q.q.accepted o.result o.ensures v.result v.ensures c.in-Theorem.is c.write_out.ensures)
