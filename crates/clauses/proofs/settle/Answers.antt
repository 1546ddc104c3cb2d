use Rattle.std.proofs.Common.{rules}
use Rattle.clauses.proofs.Rounds.{rounds_stop, rounds_next}
use Rattle.clauses.proofs.settle.Goals as goal

pub returns-then-next-state : goal.returns-then-next-state
returns-then-next-state c =
    let l = c.loop-rounds in
    rounds_stop c.args.clauses.now l.state l.rounds c.round-next.result l.invariant (search rules) c.round-next.ensures c.if-next-state.true

pub loop-rounds-preserved : goal.loop-rounds-preserved
loop-rounds-preserved c =
    let l = c.loop-rounds in
    rounds_next c.args.clauses.now l.state l.rounds c.round-next.result l.invariant (search rules) c.round-next.ensures c.if-next-state.false
