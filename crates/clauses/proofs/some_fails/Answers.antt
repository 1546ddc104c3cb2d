use Rattle.std.proofs.Common.{true, false, rules}
use Rattle.std.proofs.lemmas.Iterator.{cases_from_any, YieldsList-from_slice}
use Rattle.calculus.specs.Clauses.{fails}
use Rattle.clauses.proofs.Rounds.{Tests, any_test}
use Rattle.clauses.proofs.some_fails.Goals as goal

pub returns : goal.returns
returns c =
    any_test (fails c.args.lit) c.args.clauses.now c.any.result
    (cases_from_any _ _ _ (Tests (fails c.args.lit) true) (Tests (fails c.args.lit) false) c.any.ensures.ran (YieldsList-from_slice c.args.clauses.now (cc)) (λ x q k. search rules) (λ x q k. search rules))
