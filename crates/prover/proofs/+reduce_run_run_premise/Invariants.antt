-- The connectives of the running sequent fall from a sequent to its premises. The invariant of the loop over the premises: what
-- those so far come to.
use Rattle.std.proofs.Common.{◌+◌, ◌*◌}
use Rattle.calculus.specs.Syntax.{c as connectives_of}
use Rattle.sequent.specs.View.{sequent_of}
use Rattle.prover.proofs.Runs.{Ahead}
use Rattle.prover.proofs.+reduce_run_run_premise.Given as goal

abbrev pub decreases-reduce : goal.decreases-reduce
decreases-reduce l = 3 * connectives_of (sequent_of l.t.nodes.now.items l.t.items.now l.s) + 1

abbrev pub decreases-run : goal.decreases-run
decreases-run l = 3 * connectives_of (sequent_of l.t.nodes.now.items l.t.items.now l.s) + 2

abbrev pub decreases-run_premise : goal.decreases-run_premise
decreases-run_premise l = 3 * connectives_of (sequent_of l.t.nodes.now.items l.t.items.now l.s)

abbrev pub invariant-reduce-loop-p : goal.invariant-reduce-loop-p
invariant-reduce-loop-p l = Ahead l.t.nodes.now.items l.t.items.now l.s l.r l.rule l.left l.p-index l.o l.stores
