use Rattle.std.proofs.Common.{arith}
use Rattle.calculus.specs.declared.Side.TheVariants.{Right}
use Rattle.question.proofs.Questions.{side_inside}
use Rattle.question.proofs.Question.right.Goals as goal

pub overflow_add-result : goal.overflow_add-result
overflow_add-result c = omega (arith, c.requires, side_inside c.args.self.bytes.now c.args.self.accepted Right)
