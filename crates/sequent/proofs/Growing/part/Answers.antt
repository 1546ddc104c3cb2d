use Rattle.std.proofs.Common.{◌∙◌}
use Rattle.sequent.proofs.Letters.{joined_one}
use Rattle.sequent.proofs.Growing.part.Goals as goal

pub returns : goal.returns
returns c = (c.put.ensures, c.with.ensures ∙ joined_one c.args.name c.args.self.half)
