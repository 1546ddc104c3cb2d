-- The loop's invariant: what is left of both compares as they do.
use Rattle.std.proofs.Common.{◌≡◌, drop}
use Rattle.calculus.specs.Standard.{compare}
use Rattle.spelling.proofs.compare.Given as goal

abbrev pub invariant-loop-i : goal.invariant-loop-i
invariant-loop-i l = compare l.x l.y ≡ compare (drop l.i l.x) (drop l.i l.y)
