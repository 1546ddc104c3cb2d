-- The loop's invariant: the word is written, and the numbers so far behind it.
use Rattle.std.proofs.Common.{◌++◌, take}
use Rattle.std.specs.Fmt.{HasWritten, IsPlainFormatter}
use Rattle.print.specs.Text.{spaced, decimal}
use Rattle.print.proofs.LineDisplay.fmt.Given as goal

abbrev pub invariant-loop-n : goal.invariant-loop-n
invariant-loop-n g l =
    IsPlainFormatter l.fn.f → HasWritten g.W.Write.write_str_gives l.fn.f (l.self.word.now ++ spaced decimal (take l.n-index l.n-items)) l.f
