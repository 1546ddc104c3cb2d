use Rattle.std.proofs.Common.{sym}
use Rattle.checker.proofs.Masks.{bit_shift, bit_high}
use Rattle.checker.proofs.in_mask.Goals as goal

pub returns-then-letter-ge-LETTERS : goal.returns-then-letter-ge-LETTERS
returns-then-letter-ge-LETTERS c = sym (bit_high c.args.letter c.args.mask c.ranges.mask.fits c.if-letter-ge-LETTERS.true)

pub returns : goal.returns
returns c = sym (bit_shift c.args.letter c.args.mask)
