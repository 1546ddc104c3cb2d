use Rattle.std.proofs.Common.{rules, arith, get_or}
use Rattle.std.proofs.Output.{has_written_append, has_written_of_eq}
use Rattle.print.specs.Text.{decimal}
use Rattle.print.proofs.Texts.{decimal_shown, spaced_more}
use Rattle.print.proofs.LineDisplay.fmt.Goals as goal

pub loop-n-preserved : goal.loop-n-preserved
loop-n-preserved g c =
    λ p.
    let line = c.args.self.now in
    let n = get_or line.numbers.now c.loop-n.n-index 0 in
    let digits = decimal_shown n (omega arith) in
    let next = spaced_more decimal line.word.now line.numbers.now c.loop-n.n-index c.loop-n-test.true in
    has_written_of_eq _ _ _ _ _ next (rw (← digits) (has_written_append _ _ _ _ _ _ (c.loop-n.invariant p) (search rules)))
