use Rattle.std.proofs.Common.{◌≡◌, ◌∙◌, add-zero, arith}
use Rattle.question.proofs.Walks.{passed}
use Rattle.question.proofs.skip.Goals as goal

pub loop-walk-preserved : goal.loop-walk-preserved
loop-walk-preserved c =
    let w = passed c.to_letter.ensures.0 c.to_letter.ensures.1 in
    rw c.past_letter-walk.ensures (w.due, w.sizes ∙ c.loop-walk.invariant.1)

pub returns : goal.returns
returns c =
    let z : c.loop-walk.walk.due ≡ 0 = omega arith in
    rw (z, add-zero) at c.loop-walk.invariant.1
