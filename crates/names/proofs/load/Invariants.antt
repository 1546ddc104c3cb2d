-- The loop's invariant: the formulas up to place i have come.
use Rattle.calculus.specs.declared.Side.{Side}
use Rattle.names.proofs.Sides.{Starts, Filled}
use Rattle.names.proofs.load.Given as goal

abbrev pub invariant-loop-i : goal.invariant-loop-i
invariant-loop-i l =
    let q = l.xs.q.bytes.now in
    let old = l.initial.lists in
    (u : Side) → Starts q old.nodes.items old.items l.first l.xs.start l.n u → Filled q old.items l.first u l.lists.nodes.items l.lists.items l.l l._i
