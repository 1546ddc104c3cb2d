-- The loop's invariant: reading on from the cursor is reading from the first byte. The measure is the bytes left.
use Rattle.std.proofs.Common.{◌≡◌, ◌-◌, length}
use Rattle.calculus.specs.declared.Side.TheVariants.{Left}
use Rattle.calculus.specs.declared.Expected.TheVariants.{Head}
use Rattle.calculus.specs.Reading.{read}
use Rattle.question.specs.Answers.{Standing, read_from}
use Rattle.question.proofs.Question.read.Given as goal

abbrev pub invariant-loop-cursor : goal.invariant-loop-cursor
invariant-loop-cursor l = Standing l.q l.cursor × (read_from l.q l.cursor ≡ read l.q (Head Left) 0 0)

abbrev pub decreases-loop-cursor : goal.decreases-loop-cursor
decreases-loop-cursor l = length l.q - l.cursor.at
