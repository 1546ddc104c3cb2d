-- The loop's invariant: connectives alone lie between the start and the position. The measure is the bytes left.
use Rattle.std.proofs.Common.{◌-◌, length}
use Rattle.question.specs.Positions.{Reached}
use Rattle.question.proofs.Walk.to_letter.Given as goal

abbrev pub invariant-loop-walk : goal.invariant-loop-walk
invariant-loop-walk l = Reached l.q l.fn.self.at l.fn.self.due l.walk.at l.walk.due

abbrev pub decreases-loop-walk : goal.decreases-loop-walk
decreases-loop-walk l = length l.q - l.walk.at
