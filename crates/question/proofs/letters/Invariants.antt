-- The loop's invariant: what the formulas ahead add to the set so far is what all add to the set at first. The measure is the
-- bytes left.
use Rattle.std.proofs.Common.{◌-◌, length, take, drop}
use Rattle.calculus.specs.Bytes.{formulas}
use Rattle.question.proofs.Marking.{Marking}
use Rattle.question.proofs.letters.Given as goal

abbrev pub invariant-loop-walk : goal.invariant-loop-walk
invariant-loop-walk l = Marking l.q (take l.n (formulas (drop l.at l.q))) l.set l.all l.walk.at l.walk.due

abbrev pub decreases-loop-walk : goal.decreases-loop-walk
decreases-loop-walk l = length l.q - l.walk.at
