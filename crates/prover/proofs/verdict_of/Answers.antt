use Rattle.prover.proofs.Decisions.{budget_left}
use Rattle.prover.proofs.verdict_of.Goals as goal

pub report-requires : goal.report-requires
report-requires c = budget_left c.args.q.bytes.now c.args.budget c.outcome_of.result c.outcome_of.ensures
