-- The loop's invariant: what is entered and the formulas ahead are all of the side.
use Rattle.std.proofs.Common.{◌+◌, ◌-◌, map}
use Rattle.calculus.specs.Syntax.{on_side}
use Rattle.calculus.specs.Bytes.{bytes_all, question}
use Rattle.spelling.proofs.Arranges.{Arranging}
use Rattle.spelling.proofs.enter_side.Given as goal

abbrev pub invariant-loop : goal.invariant-loop
invariant-loop l =
    let xs = l.fn.xs in
    let side = on_side xs.side (question xs.q.bytes.now) in
    Arranging xs.q.bytes.now side (xs.start + bytes_all side) (map (λ f. f.now) l.formulas.items) l.at (l.end - l.counter)
