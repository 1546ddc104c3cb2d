use Rattle.std.proofs.Common.{arith, [], ◌∷◌, length, map}
use Rattle.calculus.specs.Bytes.{SIDE, code}
use Rattle.spelling.proofs.Writes.{counted, writing_first, writing_room, writing_next, writing_last}
use Rattle.spelling.proofs.write_side.Goals as goal

pub loop-f-init : goal.loop-f-init
loop-f-init c =
    let a = c.args in
    rw c.head_of.ensures (writing_first (code (SIDE a.side)) (length a.formulas.now) (map (λ f. f.now) a.formulas.now) a.out.now (omega (arith, counted a.formulas.now, c.requires.1)))

pub slice_bounds-copy_bytes-end : goal.slice_bounds-copy_bytes-end
slice_bounds-copy_bytes-end c =
    let a = c.args in
    let l = c.loop-f in
    let h = code (SIDE a.side) ∷ length a.formulas.now ∷ [] in
    writing_room h a.formulas.now a.out.now l.out l.at l.f-index l.invariant c.loop-f-test.true _

pub loop-f-preserved : goal.loop-f-preserved
loop-f-preserved c =
    let a = c.args in
    let l = c.loop-f in
    let h = code (SIDE a.side) ∷ length a.formulas.now ∷ [] in
    rw c.copy_bytes.ensures (writing_next h a.formulas.now a.out.now l.out l.at l.f-index l.invariant c.loop-f-test.true _)

pub returns : goal.returns
returns c =
    let a = c.args in
    let l = c.loop-f in
    let h = code (SIDE a.side) ∷ length a.formulas.now ∷ [] in
    writing_last h a.formulas.now a.out.now l.out l.at l.f-index l.invariant (omega arith)
