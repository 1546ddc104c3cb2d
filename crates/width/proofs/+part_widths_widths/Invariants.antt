-- The measure is twice the bytes left, and one more where the command is still to be read.
use Rattle.std.proofs.Common.{◌+◌, ◌*◌, ◌-◌, length}
use Rattle.width.proofs.+part_widths_widths.Given as goal

abbrev pub decreases-part_widths : goal.decreases-part_widths
decreases-part_widths l = 2 * (length l.q.now - l.at)

abbrev pub decreases-widths : goal.decreases-widths
decreases-widths l = 2 * (length l.q.now - l.at) + 1
