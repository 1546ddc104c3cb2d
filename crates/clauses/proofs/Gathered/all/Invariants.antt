-- The loop's invariant: what will be gathered is the same. The measure is the bytes ahead.
use Rattle.std.proofs.Common.{◌≡◌, ◌-◌, length}
use Rattle.clauses.specs.Walks.{total, Within}
use Rattle.clauses.proofs.Gathered.all.Given as goal

abbrev pub invariant-loop-g : goal.invariant-loop-g
invariant-loop-g l = Within l.q l.g × (total l.q l.g ≡ total l.q l.fn.self)

abbrev pub decreases-loop-g : goal.decreases-loop-g
decreases-loop-g l = length l.q - l.g.at
