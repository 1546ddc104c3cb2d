-- The loop's invariant: the word is there, the numbers so far behind it, and 21 bytes at most stand for each.
use Rattle.std.proofs.Common.{◌≡◌, ◌++◌, ◌+◌, ◌*◌, ◌≤◌, length, take}
use Rattle.print.specs.Text.{spaced, decimal}
use Rattle.print.proofs.put_line.Given as goal

abbrev pub invariant-loop-n : goal.invariant-loop-n
invariant-loop-n g l =
    (l.out.items ≡ (l.fn.out.items ++ l.word) ++ spaced decimal (take l.n-index l.numbers))
    × (length l.out.items ≤ length l.fn.out.items + length l.word + 21 * l.n-index)
