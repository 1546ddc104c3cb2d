use Rattle.clauses.proofs.Rounds.{InRounds}
use Rattle.clauses.proofs.settle.Given as goal

abbrev pub invariant-loop-rounds : goal.invariant-loop-rounds
invariant-loop-rounds l = InRounds l.clauses l.state l.rounds
