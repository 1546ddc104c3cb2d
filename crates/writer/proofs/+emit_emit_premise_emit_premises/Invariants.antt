-- The connectives of the running sequent fall from a sequent to its premises. The invariant of the loop over the premises: the
-- derivations of those so far are written.
use Rattle.std.proofs.Common.{◌+◌, ◌*◌}
use Rattle.calculus.specs.Syntax.{c as connectives_of}
use Rattle.sequent.specs.View.{sequent_of}
use Rattle.writer.proofs.Writes.{Ahead}
use Rattle.writer.proofs.+emit_emit_premise_emit_premises.Given as goal

abbrev pub decreases-emit : goal.decreases-emit
decreases-emit l = 3 * connectives_of (sequent_of l.t.nodes.now.items l.t.items.now l.s) + 2

abbrev pub decreases-emit_premise : goal.decreases-emit_premise
decreases-emit_premise l = 3 * connectives_of (sequent_of l.t.nodes.now.items l.t.items.now l.s)

abbrev pub decreases-emit_premises : goal.decreases-emit_premises
decreases-emit_premises l = 3 * connectives_of (sequent_of l.t.nodes.now.items l.t.items.now l.s) + 1

abbrev pub invariant-emit_premises-loop-p : goal.invariant-emit_premises-loop-p
invariant-emit_premises-loop-p l = Ahead l.t.nodes.now.items l.t.items.now l.s l.r l.rule l.initial.out l.p-index l.length l.stores l.out
