-- The loop's invariant: the clauses so far and the formulas ahead come to the profile.
use Rattle.calculus.specs.Bytes.{question}
use Rattle.clauses.proofs.Profiles.{Storing, left_of}
use Rattle.clauses.proofs.decide_left.Given as goal

abbrev pub invariant-loop-i : goal.invariant-loop-i
invariant-loop-i l = let q = l.q.bytes.now in Storing q (left_of (question q)) l.n l.clauses.items l.at l._i
