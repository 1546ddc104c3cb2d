use Rattle.std.proofs.Common.{◌+◌, arith}
use Rattle.sequent.proofs.Firsts.{behind, behind_count, first_stands, first_nowhere, found_left, found_right, found_nowhere}
use Rattle.sequent.proofs.Running.first_compound.Goals as goal

pub returns-in_err-i : goal.returns-in_err-i
returns-in_err-i c =
    let a = c.args in
    let h = c.requires in
    let none = first_nowhere (behind a.self a.items.now a.from) c.in_err-i.ensures in
    rw c.from_residual.ensures (found_nowhere a.self a.items.now c.told-items h.0 a.from h.1 (a.self.left.count + a.self.right.count)
    (omega (arith, none, behind_count a.self a.items.now c.told-items h.0 a.from h.1)) (omega arith) (omega arith))

pub returns-then-i-lefts : goal.returns-then-i-lefts
returns-then-i-lefts c =
    let a = c.args in
    let h = c.requires in
    let j = c.in_ok-i.field-0 in
    found_left a.self a.items.now c.told-items h.0 a.from h.1 (a.from + j) (omega (arith, first_stands (behind a.self a.items.now a.from) j c.in_ok-i.ensures)) c.if-i-lefts.true

pub returns-else-i-lefts : goal.returns-else-i-lefts
returns-else-i-lefts c =
    let a = c.args in
    let h = c.requires in
    let j = c.in_ok-i.field-0 in
    let f = c.in_ok-i.ensures in
    found_right a.self a.items.now c.told-items h.0 a.from h.1 (a.from + j) (omega (arith, first_stands (behind a.self a.items.now a.from) j f)) c.if-i-lefts.false
    (omega (arith, f.0, behind_count a.self a.items.now c.told-items h.0 a.from h.1))
