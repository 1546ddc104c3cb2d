use Rattle.question.proofs.Questions.{part_or_none}
use Rattle.question.proofs.formula_part.Goals as goal

pub returns : goal.returns
returns c =
    let a = c.in-Ok.question in
    rw c.in-Ok.ensures.bytes at (part_or_none a.bytes.now a.accepted c.args.side c.args.place c.part.result _ _ c.unwrap_or_default.ensures c.part.ensures (λ p d. d))
