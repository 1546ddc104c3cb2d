use Rattle.std.proofs.Common.{rules}
use Rattle.sequent.proofs.Twins.{apart}
use Rattle.sequent.proofs.Running.twins.Goals as goal

pub returns-then-self-eq0 : goal.returns-then-self-eq0
returns-then-self-eq0 c = apart c.args.self c.args.items.now (search rules) c.requires.0 c.requires.1 c.if-self-eq0.true
