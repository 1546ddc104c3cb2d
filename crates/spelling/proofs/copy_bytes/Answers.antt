use Rattle.std.proofs.Common.{arith, get_or, ◌∙◌, refl}
use Rattle.std.proofs.lemmas.List.{length-set, take_more, take_more_set, take_all}
use Rattle.spelling.proofs.copy_bytes.Goals as goal

pub loop-i-preserved : goal.loop-i-preserved
loop-i-preserved c =
    let from = c.args.from.now in
    let l = c.loop-i in
    let b = get_or from l.i 0 in
    (length-set l.to l.i b ∙ l.invariant.0, rw (take_more_set l.to l.i b (omega arith), take_more from l.i 0 (omega arith), l.invariant.1) refl)

pub returns : goal.returns
returns c =
    let l = c.loop-i in
    rw (take_all l.i l.to (omega arith), take_all l.i c.args.from.now (omega arith)) at l.invariant.1
