use Rattle.std.proofs.Common.{ap, ◌∙◌}
use Rattle.sequent.specs.Rule.{parts_on}
use Rattle.sequent.specs.View.{joined}
use Rattle.sequent.proofs.Passes.{chain_kept, skipped}
use Rattle.sequent.proofs.Running.replace.Goals as goal

pub returns : goal.returns
returns c =
    let x = c.args.x in
    (skipped (chain_kept (rw c.slot-k.ensures.0 at c.copy.ensures.0) c.parts-b.ensures.0) c.skip.ensures, c.parts-b.ensures.1 ∙ ap (joined (parts_on c.args.p.side x.p x.f x.g)) c.copy.ensures.1)
