use Rattle.checker.proofs.Commands.{no_formula, a_letter, other_connective, reduces}
use Rattle.checker.proofs.formula_named.Goals as goal

pub returns-then-count-p : goal.returns-then-count-p
returns-then-count-p c = no_formula c.requires c.args.side c.args.at c.args.connective c.from.ensures c.count.ensures c.if-count-p.true

pub returns-then-t-k-lt-LETTERS : goal.returns-then-t-k-lt-LETTERS
returns-then-t-k-lt-LETTERS c =
    a_letter c.requires c.args.side c.args.at c.args.connective c.from.ensures c.count.ensures c.if-count-p.false c.slot-k.ensures.0 c.if-t-k-lt-LETTERS.true

pub returns-then-command-from : goal.returns-then-command-from
returns-then-command-from c =
    other_connective c.requires c.args.side c.args.at c.args.connective c.from.ensures c.count.ensures c.if-count-p.false c.slot-k.ensures.0 c.if-t-k-lt-LETTERS.false c.reduction-r.ensures
    c.command.ensures c.from-2.ensures c.if-command-from.true

pub returns : goal.returns
returns c =
    reduces c.requires c.args.side c.args.at c.args.connective c.from.ensures c.count.ensures c.if-count-p.false c.slot-k.ensures.0 c.if-t-k-lt-LETTERS.false c.reduction-r.ensures
    c.command.ensures c.from-2.ensures c.if-command-from.false
