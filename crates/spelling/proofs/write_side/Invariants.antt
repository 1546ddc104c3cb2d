-- The loop's invariant: the first formulas are written, and the rest of the buffer is as it was.
use Rattle.std.proofs.Common.{[], ◌∷◌, map, length}
use Rattle.calculus.specs.Bytes.{SIDE, code}
use Rattle.spelling.proofs.Writes.{Writing}
use Rattle.spelling.proofs.write_side.Given as goal

abbrev pub invariant-loop-f : goal.invariant-loop-f
invariant-loop-f l = Writing (code (SIDE l.fn.side) ∷ length l.formulas ∷ []) (map (λ f. f.now) l.formulas) l.fn.out l.out l.at l.f-index
