use Rattle.prover.proofs.Steps.{first_inside, first_name, due_reduce, due_ready}
use Rattle.prover.proofs.due_at.Goals as goal

pub reduction-requires : goal.reduction-requires
reduction-requires c =
    let p = c.args.p in
    let h = c.requires in
    (h.0, first_inside h.0 p.side p.at h.1, first_name h.0 p.side p.at h.1)

pub returns : goal.returns
returns c =
    let p = c.args.p in
    let h = c.requires in
    (due_reduce h.0 p.side p.at h.1 c.reduction.ensures c.args.left c.if-left-eq0.false, due_ready h.0 p.side p.at h.1 c.reduction.ensures c.args.left c.if-left-eq0.false)
