use Rattle.checker.proofs.Commands.{no_left, no_right, letter_paired, names_differ, equal_paired}
use Rattle.checker.proofs.pairs.Goals as goal

pub returns-then-s-i : goal.returns-then-s-i
returns-then-s-i c = no_left c.requires c.args.at c.from-i.ensures c.from-j.ensures c.if-s-i.true

pub returns-then-s-j : goal.returns-then-s-j
returns-then-s-j c = no_right c.requires c.args.at c.from-i.ensures c.from-j.ensures c.if-s-i.false c.if-s-j.true

pub returns-then-t-i-lt-LETTERS : goal.returns-then-t-i-lt-LETTERS
returns-then-t-i-lt-LETTERS c = letter_paired c.requires c.args.at c.from-i.ensures c.from-j.ensures c.if-s-i.false c.if-s-j.false c.if-t-i-lt-LETTERS.true

pub returns-then-t-i : goal.returns-then-t-i
returns-then-t-i c = names_differ c.requires c.args.at c.from-i.ensures c.from-j.ensures c.if-s-i.false c.if-s-j.false c.if-t-i.true

pub returns : goal.returns
returns c = equal_paired c.requires c.args.at c.from-i.ensures c.from-j.ensures c.if-s-i.false c.if-s-j.false c.if-t-i-lt-LETTERS.false c.if-t-i.false
