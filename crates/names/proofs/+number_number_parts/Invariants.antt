-- The measure is twice the bytes left, and one more where the command is still to be looked at.
use Rattle.std.proofs.Common.{◌+◌, ◌-◌, ◌*◌, length}
use Rattle.names.proofs.+number_number_parts.Given as goal

abbrev pub decreases-number_parts : goal.decreases-number_parts
decreases-number_parts l = 2 * (length l.q.now - l.at)

abbrev pub decreases-number : goal.decreases-number
decreases-number l = 2 * (length l.q.now - l.at) + 1
