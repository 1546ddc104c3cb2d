use Rattle.std.proofs.Common.{ℕ, ◌-◌, ap, ◌∙◌, arith, get_or}
use Rattle.question.proofs.Questions.{side_count, side_inside}
use Rattle.question.proofs.Formulas.count.Goals as goal

pub bounds-self-self : goal.bounds-self-self
bounds-self-self c =
    let xs = c.args.self in
    omega (arith, xs.starts, side_inside xs.q.bytes.now xs.q.accepted xs.side)

pub returns : goal.returns
returns c =
    let xs = c.args.self in
    c.from.ensures ∙ ap (λ (n : ℕ). get_or xs.q.bytes.now (n - 1) 0) xs.starts ∙ side_count xs.q.bytes.now xs.q.accepted xs.side
