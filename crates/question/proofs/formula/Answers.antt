use Rattle.std.proofs.Common.{◌≡◌, ◌+◌, ◌-◌, refl, arith}
use Rattle.question.proofs.Questions.{handed}
use Rattle.question.proofs.formula.Goals as goal

pub overflow_add-end : goal.overflow_add-end
overflow_add-end c = let a = c.args in omega (arith, rw (← c.formula_part-p.ensures) at (handed a.q.now a.side a.place).inside)

pub slice_bounds-result-end : goal.slice_bounds-result-end
slice_bounds-result-end c = let a = c.args in omega (arith, rw (← c.formula_part-p.ensures) at (handed a.q.now a.side a.place).inside)

pub returns-clause-own : goal.returns-clause-own
returns-clause-own c =
    let a = c.args in
    let p = c.formula_part-p.result in
    let e : p.start + p.count - p.start ≡ p.count = omega arith in
    rw (e, c.formula_part-p.ensures) (handed a.q.now a.side a.place).own

pub returns-clause-part : goal.returns-clause-part
returns-clause-part c =
    let p = c.formula_part-p.result in
    let e : p.start + p.count - p.start ≡ p.count = omega arith in
    rw (e, c.formula_part-p.ensures) refl
