use Rattle.std.proofs.Common.{ap, ◌∙◌}
use Rattle.sequent.specs.Rule.{parts_on}
use Rattle.sequent.specs.View.{joined}
use Rattle.sequent.proofs.Passes.{chain_kept}
use Rattle.sequent.proofs.Running.append.Goals as goal

pub returns : goal.returns
returns c =
    let x = c.args.x in
    (chain_kept (rw c.end-k.ensures at c.copy.ensures.0) c.parts.ensures.0, c.parts.ensures.1 ∙ ap (joined (parts_on c.args.side x.p x.f x.g)) c.copy.ensures.1)
