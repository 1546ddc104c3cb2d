use Rattle.std.proofs.Common.{◌∙◌}
use Rattle.calculus.specs.declared.Side.TheVariants.{Left}
use Rattle.sequent.proofs.Goods.{masks_state}
use Rattle.prover.proofs.Steps.{inner_due, inner_open}
use Rattle.prover.proofs.first_due.Goals as goal

pub returns-in-Some : goal.returns-in-Some
returns-in-Some c =
    let a = c.args in
    let h = c.requires in
    let p = c.in-Some.p in
    record {
      inner = c.due_at.ensures.0 ∙ inner_due h.0 a.left h.2 p.side p.at c.in-Some.ensures;
      ready = c.due_at.ensures.1;
    }

pub returns-in-None : goal.returns-in-None
returns-in-None c =
    let a = c.args in
    let h = c.requires in
    record { inner = inner_open h.0 a.left h.2 c.in-None.ensures a.s.left.mask (masks_state a.t.nodes.now.items a.t.items.now a.s h.0 Left); ready = tt }
