use Rattle.clauses.proofs.MaskTests.{met_test}
use Rattle.clauses.proofs.Masks.is_met.Goals as goal

pub returns : goal.returns
returns c d e = met_test c.args.self c.args.lit d e
