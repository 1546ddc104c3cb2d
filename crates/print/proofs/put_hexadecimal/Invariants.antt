-- The loop's invariant: the first byte is there, the bytes so far behind it, and three bytes at most stand for each.
use Rattle.std.proofs.Common.{◌≡◌, ◌++◌, ◌+◌, ◌*◌, ◌≤◌, length, take}
use Rattle.print.specs.Text.{spaced, spelled}
use Rattle.print.proofs.put_hexadecimal.Given as goal

abbrev pub invariant-loop-b : goal.invariant-loop-b
invariant-loop-b g l =
    (l.out.items ≡ (l.fn.out.items ++ spelled l.first) ++ spaced spelled (take l.b-index l.rest))
    × (length l.out.items ≤ length l.fn.out.items + 2 + 3 * l.b-index)
