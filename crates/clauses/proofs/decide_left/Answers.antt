use Rattle.std.proofs.Common.{◌≡◌, Err, ◌∙◌, arith, rules}
use Rattle.calculus.specs.Bytes.{question}
use Rattle.calculus.specs.Reply.{profile_reply}
use Rattle.clauses.specs.Answers.{reply_of}
use Rattle.clauses.proofs.Profiles.{left_of, left_few, storing_first, storing_well, storing_stop, storing_next, storing_last}
use Rattle.clauses.proofs.decide_left.Goals as goal

pub push-requires : goal.push-requires
push-requires c =
    let q = c.args.q in
    let own = c.left-formulas.ensures in
    let few = left_few q.bytes.now q.accepted c.count-n.result (rw (own.0, own.1) at c.count-n.ensures) in
    (omega arith, omega (arith, c.loop-i.invariant.room, c.loop-i-test.true, few))

pub loop-i-init : goal.loop-i-init
loop-i-init c =
    let q = c.args.q in
    let xs = c.left-formulas.result in
    let own = c.left-formulas.ensures in
    rw c.new-clauses.ensures
    (storing_first q.bytes.now q.accepted xs.start c.count-n.result (rw (own.0, own.1) at xs.starts) (rw (own.0, own.1) at c.count-n.ensures))

pub clause_at-requires : goal.clause_at-requires
clause_at-requires c = storing_well c.loop-i.invariant c.loop-i-test.true

pub returns-in_err-next : goal.returns-in_err-next
returns-in_err-next c =
    let w = c.in_err-next in
    let h : profile_reply (left_of (question c.args.q.bytes.now)) ≡ reply_of (Err w.field-0.0) =
    storing_stop c.loop-i.invariant c.loop-i-test.true w.field-0.0 w.ensures in
    search rules

pub loop-i-preserved : goal.loop-i-preserved
loop-i-preserved c =
    let w = c.in_ok-next in
    rw c.push.ensures.items (storing_next c.loop-i.invariant c.loop-i-test.true w.next w.ensures)

pub returns : goal.returns
returns c = storing_last c.loop-i.invariant c.loop-i-test.false c.decide.result (λ cs e. c.decide.ensures cs (c.as_slice.ensures.value ∙ e))
