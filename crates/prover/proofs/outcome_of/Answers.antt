use Rattle.std.proofs.Common.{refl, arith}
use Rattle.calculus.specs.Limits.{LIMITS}
use Rattle.calculus.proofs.Room.{question_reachable}
use Rattle.prover.proofs.outcome_of.Goals as goal

pub run-requires : goal.run-requires
run-requires c =
    let r = c.root-s.ensures in
    rw (c.names.ensures.0, c.names.ensures.1) (
      r.0,
      record { inside = omega arith; letters = refl },
      question_reachable LIMITS c.args.q.bytes.now c.args.q.accepted r.1,
    )
