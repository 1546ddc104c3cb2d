-- The loop's invariant: the position and the bytes of the formulas due from there on add up to what they did at first. The
-- measure is the bytes left.
use Rattle.std.proofs.Common.{◌≡◌, ◌+◌, ◌-◌, ◌≤◌, length, take, drop}
use Rattle.calculus.specs.Bytes.{formulas, bytes_all}
use Rattle.question.proofs.skip.Given as goal

abbrev pub invariant-loop-walk : goal.invariant-loop-walk
invariant-loop-walk l =
    (l.walk.due ≤ length (formulas (drop l.walk.at l.q)))
    × (l.walk.at + bytes_all (take l.walk.due (formulas (drop l.walk.at l.q))) ≡ l.at + bytes_all (take l.n (formulas (drop l.at l.q))))

abbrev pub decreases-loop-walk : goal.decreases-loop-walk
decreases-loop-walk l = length l.q - l.walk.at
