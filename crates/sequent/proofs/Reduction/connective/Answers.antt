use Rattle.std.proofs.Common.{sym, ◌∙◌}
use Rattle.question.proofs.Connectives.{reads}
use Rattle.sequent.proofs.Reduction.connective.Goals as goal

pub unwrap-requires : goal.unwrap-requires
unwrap-requires c = reads _ c.try_from.result c.try_from.ensures c.requires.0 (c.requires.1 ∙ sym c.command.ensures)
