use Rattle.std.proofs.Common.{◌+◌, refl, arith}
use Rattle.checker.proofs.Commands.{past}
use Rattle.checker.proofs.Walking.{byte_at}
use Rattle.checker.proofs.obey_pair.Goals as goal

pub returns-then-d-at-lt3 : goal.returns-then-d-at-lt3
returns-then-d-at-lt3 c = let a = c.args in rw (past a.d.now (a.at + 2) (omega (arith, c.if-d-at-lt3.true))) (refl, refl)

pub returns : goal.returns
returns c = let a = c.args in rw (byte_at a.d.now (a.at + 2) (omega (arith, c.if-d-at-lt3.false))) c.pairs.ensures
