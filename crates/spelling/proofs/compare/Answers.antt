use Rattle.std.proofs.Common.{arith, sym, ◌∙◌}
use Rattle.spelling.proofs.Order.{compare_ends}
use Rattle.spelling.proofs.compare.Goals as goal

pub returns : goal.returns
returns c =
    let l = c.loop-i in
    let all = c.min-i-end.ensures in
    let ends = compare_ends c.args.x.now c.args.y.now l.i (omega (arith, all, l.auto.i-end)) (omega (arith, all, l.auto.i-end)) (λ h k. absurd (omega (arith, all, c.loop-i-test.false))) in
    c.cmp-2.ensures ∙ sym (l.invariant ∙ ends)
