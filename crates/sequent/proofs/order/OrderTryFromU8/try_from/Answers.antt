use Rattle.std.proofs.Common.{arith}
use Rattle.question.proofs.Connectives.{reads_low}
use Rattle.sequent.proofs.order.OrderTryFromU8.try_from.Goals as goal

pub unwrap-requires : goal.unwrap-requires
unwrap-requires c = reads_low _ c.try_from.result c.try_from.ensures (omega arith) (omega arith)

pub unwrap-requires-in-98-to-102 : goal.unwrap-requires-in-98-to-102
unwrap-requires-in-98-to-102 c = reads_low _ c.try_from-in-98-to-102.result c.try_from-in-98-to-102.ensures (omega arith) (omega arith)
