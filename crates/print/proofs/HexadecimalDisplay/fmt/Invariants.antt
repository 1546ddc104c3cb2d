-- The loop's invariant: the first byte is written, and the bytes so far behind it.
use Rattle.std.proofs.Common.{◌++◌, take, get_or}
use Rattle.std.specs.Fmt.{HasWritten, IsPlainFormatter}
use Rattle.print.specs.Text.{spaced, spelled}
use Rattle.print.proofs.HexadecimalDisplay.fmt.Given as goal

abbrev pub invariant-loop-b : goal.invariant-loop-b
invariant-loop-b g l =
    IsPlainFormatter l.fn.f → HasWritten g.W.Write.write_str_gives l.fn.f (spelled (get_or l.self.0.now 0 0) ++ spaced spelled (take l.b-index l.rest)) l.f
