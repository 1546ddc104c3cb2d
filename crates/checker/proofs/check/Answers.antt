-- The walk from the question's own sequent decides.
use Rattle.std.proofs.Common.{◌≡◌, arith, rules}
use Rattle.std.specs.Prelude.{Err}
use Rattle.checker.specs.declared.NotPassed.TheVariants.{Faulty}
use Rattle.checker.proofs.Answers.{root_reached, answer_faulty, answer_after, answer_passes}
use Rattle.checker.proofs.check.Goals as goal

pub walk-requires : goal.walk-requires
walk-requires c =
    let h = root_reached c.in_ok-asked.asked.bytes.now c.in_ok-asked.asked.accepted c.root-s.ensures c.names.ensures in
    (h.0, h.1, omega arith)

pub returns-in_err-end-clause-exactly : goal.returns-in_err-end-clause-exactly
returns-in_err-end-clause-exactly c =
    let k = c.in_ok-asked.ensures in
    let f = c.in_err-end.field-0.0 in
    let e : c.from_residual-in_err-end.result ≡ Err (Faulty f) = search rules in
    rw e (answer_faulty c.args.derivation.now k.reads k.bytes c.root-s.ensures c.names.ensures f c.in_err-end.ensures).1.1

pub returns-then-end-derivation-clause-reply : goal.returns-then-end-derivation-clause-reply
returns-then-end-derivation-clause-reply c =
    let k = c.in_ok-asked.ensures in
    (answer_after c.args.derivation.now k.reads k.bytes c.root-s.ensures c.names.ensures c.in_ok-end.end c.in_ok-end.ensures c.if-end-derivation.true).0

pub returns-then-end-derivation-clause-exactly : goal.returns-then-end-derivation-clause-exactly
returns-then-end-derivation-clause-exactly c =
    let k = c.in_ok-asked.ensures in
    (answer_after c.args.derivation.now k.reads k.bytes c.root-s.ensures c.names.ensures c.in_ok-end.end c.in_ok-end.ensures c.if-end-derivation.true).1.1

pub returns-clause-sound : goal.returns-clause-sound
returns-clause-sound c =
    let k = c.in_ok-asked.ensures in
    (answer_passes c.args.derivation.now k.reads k.bytes c.root-s.ensures c.names.ensures c.in_ok-end.end c.in_ok-end.ensures c.if-end-derivation.false).1.0

pub returns-clause-exactly : goal.returns-clause-exactly
returns-clause-exactly c =
    let k = c.in_ok-asked.ensures in
    (answer_passes c.args.derivation.now k.reads k.bytes c.root-s.ensures c.names.ensures c.in_ok-end.end c.in_ok-end.ensures c.if-end-derivation.false).1.1
