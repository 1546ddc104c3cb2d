use Rattle.sequent.proofs.Twins.{Before}
use Rattle.sequent.proofs.Running.search.Given as goal

abbrev pub invariant-loop-i : goal.invariant-loop-i
invariant-loop-i l = Before l.fn.self l.items l.i
