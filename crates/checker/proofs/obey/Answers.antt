use Rattle.checker.proofs.Commands.{closed, not_closed}
use Rattle.checker.proofs.obey.Goals as goal

pub returns-then-closes : goal.returns-then-closes
returns-then-closes c = closed c.requires.0 _ c.args.at _ (rw (c.in-Ok.is, c.in-Close.is) at c.try_from.ensures) c.closes.ensures c.if-closes.true

pub returns-else-closes : goal.returns-else-closes
returns-else-closes c = not_closed c.requires.0 _ c.args.at _ (rw (c.in-Ok.is, c.in-Close.is) at c.try_from.ensures) c.closes.ensures c.if-closes.false

pub returns-in-Pair : goal.returns-in-Pair
returns-in-Pair c = rw (rw (c.in-Ok.is, c.in-Pair.is) at c.try_from.ensures) c.obey_pair.ensures

pub returns-in-Reduce : goal.returns-in-Reduce
returns-in-Reduce c = rw (rw (c.in-Ok.is, c.in-Reduce.is) at c.try_from.ensures) c.formula_named.ensures
