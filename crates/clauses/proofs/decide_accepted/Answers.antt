use Rattle.std.proofs.Common.{refl, sym, ap, ◌∙◌, length}
use Rattle.calculus.specs.Bytes.{question}
use Rattle.calculus.specs.Reply.{profile_reply}
use Rattle.clauses.proofs.Answers.{left_profile, right_formula}
use Rattle.clauses.proofs.Rights.{two_at_least, right_empty, right_there}
use Rattle.clauses.proofs.decide_accepted.Goals as goal

pub overflow_sub-tail : goal.overflow_sub-tail
overflow_sub-tail c = let q = c.args.q in two_at_least q.bytes.now q.accepted

pub returns-then-q-tail : goal.returns-then-q-tail
returns-then-q-tail c =
    let q = c.args.q in
    c.decide_left.ensures ∙ ap profile_reply (left_profile (question q.bytes.now) (right_empty q.bytes.now q.accepted (c.if-q-tail.true ∙ c.head_of.ensures)))

pub returns : goal.returns
returns c =
    let q = c.args.q in
    let s = question q.bytes.now in
    let xs = c.formulas.result in
    let own = c.formulas.ensures in
    right_formula s xs.start (length s.on_right) (rw (own.0, own.1) at xs.starts) refl
    (right_there q.bytes.now q.accepted (λ e. c.if-q-tail.false (e ∙ sym c.head_of.ensures)))
