use Rattle.std.proofs.Common.{sym, ◌∙◌}
use Rattle.clauses.proofs.MaskTests.{fails_test}
use Rattle.clauses.proofs.Masks.fails.Goals as goal

pub returns-then-is_met : goal.returns-then-is_met
returns-then-is_met c d e = fails_test c.args.self c.args.lit d e (sym (c.is_met.ensures d e) ∙ c.if-is_met.true)
