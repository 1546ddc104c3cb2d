use Rattle.std.proofs.Common.{arith}
use Rattle.question.proofs.Walks.{reached_inside, reached_next}
use Rattle.question.proofs.Walk.to_letter.Goals as goal

pub past_connective-walk-requires : goal.past_connective-walk-requires
past_connective-walk-requires c = (omega (arith, reached_inside c.loop-walk.invariant), omega (arith, reached_inside c.loop-walk.invariant), c.loop-walk-test.true)

pub loop-walk-preserved : goal.loop-walk-preserved
loop-walk-preserved c = rw c.past_connective-walk.ensures (reached_next c.loop-walk.invariant c.loop-walk-test.true)
