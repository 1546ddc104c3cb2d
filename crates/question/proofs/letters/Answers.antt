use Rattle.question.proofs.Marking.{marking_first, marking_last, marking_next}
use Rattle.question.proofs.letters.Goals as goal

pub loop-walk-init : goal.loop-walk-init
loop-walk-init c = marking_first c.args.q.now c.args.set c.args.at c.args.n c.requires.0 c.requires.1

pub marked-all-requires : goal.marked-all-requires
marked-all-requires c = (marking_next c.loop-walk.invariant c.to_letter-letter.ensures.0 c.to_letter-letter.ensures.1).letter

pub loop-walk-preserved : goal.loop-walk-preserved
loop-walk-preserved c =
    let m = marking_next c.loop-walk.invariant c.to_letter-letter.ensures.0 c.to_letter-letter.ensures.1 in
    rw c.past_letter-walk.ensures (m.next c.marked-all.result c.marked-all.ensures.bits)

pub returns : goal.returns
returns c = marking_last c.loop-walk.invariant c.loop-walk-test.false
