-- The connectives of the running sequent fall from a sequent to its premises. The measure is three times those, and more where
-- the premise is still to be made.
use Rattle.std.proofs.Common.{◌+◌, ◌*◌}
use Rattle.calculus.specs.Syntax.{c as connectives}
use Rattle.sequent.specs.View.{sequent_of}
use Rattle.sequent.specs.Compounds.{premise_by}
use Rattle.checker.proofs.Walking.{Ahead}
use Rattle.checker.proofs.+walk_walk_premise_walk_premises.Given as goal

abbrev pub decreases-walk : goal.decreases-walk
decreases-walk l = 3 * connectives (sequent_of l.t.nodes.now.items l.t.items.now l.s) + 2

abbrev pub decreases-walk_premise : goal.decreases-walk_premise
decreases-walk_premise l = 3 * connectives (sequent_of l.t.nodes.now.items l.t.items.now l.s)

abbrev pub decreases-walk_premises : goal.decreases-walk_premises
decreases-walk_premises l = 3 * connectives (sequent_of l.t.nodes.now.items l.t.items.now l.s) + 1

abbrev pub invariant-walk_premises-loop-p : goal.invariant-walk_premises-loop-p
invariant-walk_premises-loop-p l = Ahead l.d (premise_by l.t.nodes.now.items l.t.items.now l.s l.r) l.rule l.at l.p-index l.end l.stores
