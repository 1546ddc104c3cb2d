use Rattle.std.proofs.Common.{arith, ◌≡◌, ◌+◌, ◌-◌, ◌≤◌, length, map, ap}
use Rattle.calculus.specs.Syntax.{on_side}
use Rattle.calculus.specs.Bytes.{question, bytes_all}
use Rattle.question.proofs.Questions.{side_read}
use Rattle.spelling.proofs.Arranges.{side_few, arranging_first, ends, arranging_next}
use Rattle.spelling.proofs.enter_side.Goals as goal

pub loop-init : goal.loop-init
loop-init c =
    let xs = c.args.xs in
    let q = xs.q.bytes.now in
    let n = c.count-end.result in
    let r = side_read q xs.q.accepted xs.side xs.start n xs.starts c.count-end.ensures in
    let few : n ≤ 16 = omega (arith, side_few q xs.q.accepted xs.side, c.count-end.ensures) in
    let z : n - 0 ≡ n = omega arith in
    rw z (arranging_first q (on_side xs.side (question q)) xs.start n few r.enough r.all (map (λ f. f.now) c.args.formulas.now.items) (ap (map (λ f. f.now)) c.requires))

pub slice_bounds-enter-end : goal.slice_bounds-enter-end
slice_bounds-enter-end c =
    let q = c.args.xs.q.bytes.now in
    let side = on_side c.args.xs.side (question q) in
    let l = c.loop in
    let e : c.end_of-end.result ≤ length q = omega (arith, c.end_of-end.ensures, ends q side (c.args.xs.start + bytes_all side) (map (λ f. f.now) l.formulas.items) l.at (c.count-end.result - l.counter) l.invariant (omega arith)) in
    e

pub loop-preserved : goal.loop-preserved
loop-preserved c =
    let q = c.args.xs.q.bytes.now in
    let side = on_side c.args.xs.side (question q) in
    let l = c.loop in
    let z : c.count-end.result - (l.counter + 1) ≡ c.count-end.result - l.counter - 1 = omega arith in
    rw (c.enter.ensures, c.end_of-end.ensures, z) (arranging_next q side (c.args.xs.start + bytes_all side) (map (λ f. f.now) l.formulas.items) l.at (c.count-end.result - l.counter) l.invariant (omega arith))
