use Rattle.std.proofs.Common.{arith, ◌++◌}
use Rattle.print.specs.Text.{decimal}
use Rattle.print.proofs.Texts.{spaced_more}
use Rattle.print.proofs.put_line.Goals as goal

pub loop-n-preserved : goal.loop-n-preserved
loop-n-preserved g c =
    let next = spaced_more decimal (c.args.out.now.items ++ c.args.word.now) c.args.numbers.now c.loop-n.n-index c.loop-n-test.true in
    (rw (c.put_number.ensures.text, c.loop-n.invariant.0) next, omega (arith, c.loop-n.invariant.1, c.put_number.ensures.short))
