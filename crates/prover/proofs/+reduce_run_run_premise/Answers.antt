use Rattle.std.proofs.Common.{sym, ap, ◌∙◌, arith, rules}
use Rattle.calculus.specs.Syntax.{c as connectives_of}
use Rattle.calculus.specs.Tree.{outcome}
use Rattle.sequent.specs.View.{view}
use Rattle.sequent.specs.Compounds.{compound_at}
use Rattle.sequent.proofs.Goods.{command_made, premise_asks}
use Rattle.prover.proofs.Premises.{made}
use Rattle.prover.proofs.Runs.{answered, ahead_starts, ahead_makes, ahead_fits, ahead_goes, ahead_stops, ahead_ends}
use Rattle.prover.proofs.+reduce_run_run_premise.Goals as goal

-- ---- the loop over the premises

pub reduce-rule-rule-requires : goal.reduce-rule-rule-requires
reduce-rule-rule-requires t c =
    let a = c.args in
    let h = c.requires in
    ((compound_at a.t.nodes.now.items a.r.place.side a.r.place.at (view a.s a.t.items.now)).connective, sym (command_made a.t.nodes.now.items a.t.items.now a.s h.good a.r h.can))

pub reduce-loop-p-init : goal.reduce-loop-p-init
reduce-loop-p-init t c =
    rw c.ended-o.ensures (ahead_starts c.requires c.rule-rule.ensures c.args.left)

pub reduce-run_premise-m-requires : goal.reduce-run_premise-m-requires
reduce-run_premise-m-requires t c =
    (omega (arith, c.decreases), (ahead_makes c.loop-p.invariant c.loop-p-test.true, c.requires.found))

pub reduce-overflow_add-stores : goal.reduce-overflow_add-stores
reduce-overflow_add-stores t c = omega (arith, ahead_fits c.loop-p.invariant c.loop-p-test.true c.run_premise-m.ensures)

pub reduce-overflow_add-o : goal.reduce-overflow_add-o
reduce-overflow_add-o t c = omega (arith, ahead_fits c.loop-p.invariant c.loop-p-test.true c.run_premise-m.ensures)

pub reduce-overflow_add-o-in-loop-p : goal.reduce-overflow_add-o-in-loop-p
reduce-overflow_add-o-in-loop-p t c = omega (arith, ahead_fits c.loop-p.invariant c.loop-p-test.true c.run_premise-m.ensures)

pub reduce-loop-p-preserved : goal.reduce-loop-p-preserved
reduce-loop-p-preserved t c = ahead_goes c.loop-p.invariant c.loop-p-test.true c.run_premise-m.ensures (cc)

pub reduce-returns-after-loop-p : goal.reduce-returns-after-loop-p
reduce-returns-after-loop-p t c = ahead_ends c.loop-p.invariant c.loop-p-test.false

pub reduce-returns-in_default : goal.reduce-returns-in_default
reduce-returns-in_default t c = ahead_stops c.loop-p.invariant c.loop-p-test.true c.run_premise-m.ensures (search rules)

-- ---- the run

pub run-returns-in-Closed : goal.run-returns-in-Closed
run-returns-in-Closed t c = c.ended.ensures ∙ rw c.in-Closed.is at (answered c.step.ensures)

pub run-returns-in-Paired : goal.run-returns-in-Paired
run-returns-in-Paired t c = c.ended-in-Paired.ensures ∙ rw c.in-Paired.is at (answered c.step.ensures)

pub run-returns-in-Open : goal.run-returns-in-Open
run-returns-in-Open t c = c.ended-in-Open.ensures ∙ rw c.in-Open.is at (answered c.step.ensures)

pub run-returns-in-Spent : goal.run-returns-in-Spent
run-returns-in-Spent t c = c.ended-in-Spent.ensures ∙ rw c.in-Spent.is at (answered c.step.ensures)

pub run-returns-in-Reduce : goal.run-returns-in-Reduce
run-returns-in-Reduce t c = c.reduce.ensures.outcome ∙ rw c.in-Reduce.is at (answered c.step.ensures)

-- ---- a premise, made and run

pub run_premise-premise-made-requires : goal.run_premise-premise-made-requires
run_premise-premise-made-requires t c =
    let a = c.args in
    premise_asks a.t.nodes.now.items a.t.items.now a.s a.r a.p c.requires.0

pub run_premise-run-requires : goal.run_premise-run-requires
run_premise-run-requires t c =
    let h = c.requires in
    let w = made h.0 h.1 c.premise-made.ensures in
    (omega (arith, c.decreases, ap connectives_of w.is, h.0.fewer), (w.good, rw c.start.ensures w.clear, rw w.is h.0.reached))

pub run_premise-returns : goal.run_premise-returns
run_premise-returns t c =
    let w = made c.requires.0 c.requires.1 c.premise-made.ensures in
    record { outcome = c.run.ensures ∙ ap (outcome c.args.left) w.is; stores = w.stores }
