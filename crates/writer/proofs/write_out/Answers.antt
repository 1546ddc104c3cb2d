use Rattle.std.proofs.Common.{ℕ, ◌+◌, ◌*◌, ◌^◌, ◌<◌, length, refl, ap, ◌∙◌, arith}
use lib.Seq.{sets}
use Rattle.calculus.specs.Bytes.{question}
use Rattle.calculus.specs.Syntax.{Sequent}
use Rattle.calculus.specs.Tree.{tree}
use Rattle.calculus.specs.Derivation.{derivation}
use Rattle.calculus.specs.Limits.{LIMITS}
use Rattle.calculus.proofs.Readings.{accepted_question}
use Rattle.calculus.proofs.Room.{question_reachable}
use Rattle.calculus.specs.declared.Verdict.{Verdict}
use Rattle.question.specs.declared.Question.{Question}
use Rattle.writer.specs.Answers.{IsTheorem}
use Rattle.writer.proofs.Answering.{needed, needed_small, no_space_lem, space}
use Rattle.writer.proofs.write_out.Goals as goal

-- The length of an accepted question's derivation is small.
short : (q : Question) (v : Verdict) (n : ℕ) → IsTheorem (question q.bytes.now) v n → 2 * (v.reductions + v.closings) + n < 2 ^ 64
short q v n t = omega (arith, needed_small (question q.bytes.now) v n t (accepted_question q.bytes.now q.accepted).0.connectives)

pub overflow_add-length : goal.overflow_add-length
overflow_add-length c = omega (arith, short c.args.q c.args.v c.args.pairings c.requires)

pub overflow_mul-length : goal.overflow_mul-length
overflow_mul-length c = omega (arith, short c.args.q c.args.v c.args.pairings c.requires)

pub overflow_add-length-2 : goal.overflow_add-length-2
overflow_add-length-2 c = omega (arith, short c.args.q c.args.v c.args.pairings c.requires)

pub returns-then-buffer-length : goal.returns-then-buffer-length
returns-then-buffer-length c = no_space_lem (question c.args.q.bytes.now) c.args.v c.args.pairings c.requires c.args.buffer.now _ refl c.if-buffer-length.true

pub emit-requires : goal.emit-requires
emit-requires c =
    let a = c.args in
    let r = c.root-s.ensures in
    let long = needed (question a.q.bytes.now) a.v a.pairings c.requires in
    rw (c.names.ensures.0, c.names.ensures.1) (
      r.0,
      record { inside = omega arith; letters = refl },
      question_reachable LIMITS a.q.bytes.now a.q.accepted r.1,
      ap (λ (P : Sequent). (tree P).end) r.1 ∙ c.requires.proved,
      omega (arith, ap (λ (P : Sequent). length (derivation P)) r.1, long, c.if-buffer-length.false),
    )

pub returns : goal.returns
returns c =
    let a = c.args in
    let all = rw (c.names.ensures.0, c.names.ensures.1) at c.emit.ensures.1 ∙ ap (λ (P : Sequent). sets a.buffer.now 0 (derivation P)) c.root-s.ensures.1 in
    let left = c.if-buffer-length.false in
    space (question a.q.bytes.now) a.v a.pairings c.requires a.buffer.now _ _ refl (omega (arith, left)) all
