use Rattle.std.proofs.Common.{◌^◌, ◌<◌, length, sym, ap, ◌∙◌, arith}
use lib.Seq.{sets}
use Rattle.calculus.specs.declared.Side.TheVariants.{Left}
use Rattle.calculus.specs.Limits.{LETTERS}
use Rattle.calculus.specs.Syntax.{Connective, Sequent, c as connectives_of}
use Rattle.calculus.specs.Derivation.{REDUCE, order_code, derivation}
use Rattle.calculus.specs.Tree.{tree}
use Rattle.question.proofs.Connectives.{one_command}
use Rattle.sequent.specs.View.{view, sequent_of}
use Rattle.sequent.specs.Compounds.{compound_at}
use Rattle.sequent.proofs.Goods.{masks_state, command_made, place_small, premise_asks}
use Rattle.prover.proofs.Premises.{made}
use Rattle.writer.proofs.Writes.{closed_small, no_other, due_provable, due_long, due_written, part_long, ahead_starts, ahead_within, ahead_next, ahead_fits, ahead_goes, ahead_ends}
use Rattle.writer.proofs.+emit_emit_premise_emit_premises.Goals as goal

-- ---- one sequent

pub emit-overflow_cast-k : goal.emit-overflow_cast-k
emit-overflow_cast-k t c =
    let a = c.args in
    let S = sequent_of a.t.nodes.now.items a.t.items.now a.s in
    let low : a.s.left.mask < 2 ^ LETTERS = omega arith in
    let small = rw (masks_state a.t.nodes.now.items a.t.items.now a.s c.requires.0 Left) at low in
    omega (arith, closed_small S c.in-Closed.k c.in-Closed.ensures.inner small)

pub emit-connective-requires : goal.emit-connective-requires
emit-connective-requires t c =
    let a = c.args in
    let r = c.in-Reduce.r in
    let w = c.in-Reduce.ensures.ready in
    ((compound_at a.t.nodes.now.items r.place.side r.place.at (view a.s a.t.items.now)).connective, sym (command_made a.t.nodes.now.items a.t.items.now a.s c.requires.0 r w.can))

pub emit-overflow_cast-r : goal.emit-overflow_cast-r
emit-overflow_cast-r t c =
    let a = c.args in
    omega (arith, place_small a.t.nodes.now.items a.t.items.now a.s c.requires.0 c.in-Reduce.r c.in-Reduce.ensures.ready.can)

pub emit-put-n-requires : goal.emit-put-n-requires
emit-put-n-requires t c = omega (arith, c.requires.4, due_long c.in-Reduce.ensures c.requires.3)

pub emit-slice_bounds-emit_premises-count : goal.emit-slice_bounds-emit_premises-count
emit-slice_bounds-emit_premises-count t c = omega (arith, c.requires.4, due_long c.in-Reduce.ensures c.requires.3, c.put-n.ensures.0, c.put-n.auto.out)

pub emit-slice_bounds-emit_premises-start : goal.emit-slice_bounds-emit_premises-start
emit-slice_bounds-emit_premises-start t c = omega (arith, c.requires.4, due_long c.in-Reduce.ensures c.requires.3, c.put-n.ensures.0, c.put-n.auto.out)

pub emit-emit_premises-requires : goal.emit-emit_premises-requires
emit-emit_premises-requires t c =
    let h = c.requires in
    let w = c.in-Reduce.ensures in
    let p = c.put-n in (
      omega (arith, c.decreases),
      (
        record { good = h.0; found = w.ready.found; can = w.ready.can; reached = h.2 },
        due_provable w h.3,
        part_long p.new.out p.result _ (omega (arith, h.4, due_long w h.3, p.ensures.0, p.auto.out)),
      ),
    )

pub emit-overflow_add-result : goal.emit-overflow_add-result
emit-overflow_add-result t c = omega (arith, c.requires.4, due_long c.in-Reduce.ensures c.requires.3, c.put-n.ensures.0, c.emit_premises.ensures.long)

pub emit-returns-in-Reduce : goal.emit-returns-in-Reduce
emit-returns-in-Reduce t c =
    let a = c.args in
    let h = c.requires in
    let r = c.in-Reduce.r in
    let w = c.in-Reduce.ensures in
    let p = c.put-n in
    let k = one_command c.connective.result _ (c.connective.ensures ∙ command_made a.t.nodes.now.items a.t.items.now a.s h.0 r w.ready.can) in
    due_written w h.3 a.out.now h.4 _ (ap (λ (l : Connective). order_code (REDUCE r.place.side l)) k) p.result p.ensures.0 p.new.out p.ensures.1 c.emit_premises.ensures

pub emit-unreachable-requires : goal.emit-unreachable-requires
emit-unreachable-requires t c =
    let o = c.in_default in
    no_other c.step.ensures c.requires.3 o.not-Closed o.not-Paired o.not-Reduce

-- ---- a premise, made and written

pub emit_premise-premise-made-requires : goal.emit_premise-premise-made-requires
emit_premise-premise-made-requires t c =
    let a = c.args in
    premise_asks a.t.nodes.now.items a.t.items.now a.s a.r a.p c.requires.0

pub emit_premise-emit-requires : goal.emit_premise-emit-requires
emit_premise-emit-requires t c =
    let h = c.requires in
    let w = made h.0 h.1 c.premise-made.ensures in (
      omega (arith, c.decreases, ap connectives_of w.is, h.0.fewer),
      (
        w.good,
        rw c.start.ensures w.clear,
        rw w.is h.0.reached,
        ap (λ (P : Sequent). (tree P).end) w.is ∙ h.2,
        omega (arith, ap (λ (P : Sequent). length (derivation P)) w.is, h.3),
      ),
    )

pub emit_premise-returns : goal.emit_premise-returns
emit_premise-returns t c =
    let w = made c.requires.0 c.requires.1 c.premise-made.ensures in
    let e = c.emit.ensures in
    record {
      long = e.0 ∙ ap (λ (P : Sequent). length (derivation P)) w.is;
      written = e.1 ∙ ap (λ (P : Sequent). sets c.args.out.now 0 (derivation P)) w.is;
      stores = w.stores;
    }

-- ---- the loop over the premises

pub emit_premises-rule-rule-requires : goal.emit_premises-rule-rule-requires
emit_premises-rule-rule-requires t c =
    let a = c.args in
    let h = c.requires.0 in
    ((compound_at a.t.nodes.now.items a.r.place.side a.r.place.at (view a.s a.t.items.now)).connective, sym (command_made a.t.nodes.now.items a.t.items.now a.s h.good a.r h.can))

pub emit_premises-loop-p-init : goal.emit_premises-loop-p-init
emit_premises-loop-p-init t c =
    let h = c.requires in
    ahead_starts h.0 c.rule-rule.ensures c.args.out.now h.1 h.2

pub emit_premises-slice_bounds-emit_premise-count : goal.emit_premises-slice_bounds-emit_premise-count
emit_premises-slice_bounds-emit_premise-count t c = omega (arith, ahead_within c.loop-p.invariant c.loop-p-test.true)

pub emit_premises-slice_bounds-emit_premise-start : goal.emit_premises-slice_bounds-emit_premise-start
emit_premises-slice_bounds-emit_premise-start t c = omega (arith, ahead_within c.loop-p.invariant c.loop-p-test.true)

pub emit_premises-emit_premise-e-requires : goal.emit_premises-emit_premise-e-requires
emit_premises-emit_premise-e-requires t c = (omega (arith, c.decreases), ahead_next c.loop-p.invariant c.loop-p-test.true)

pub emit_premises-overflow_add-length : goal.emit_premises-overflow_add-length
emit_premises-overflow_add-length t c = omega (arith, ahead_fits c.loop-p.invariant c.loop-p-test.true c.emit_premise-e.ensures)

pub emit_premises-overflow_add-stores : goal.emit_premises-overflow_add-stores
emit_premises-overflow_add-stores t c = omega (arith, ahead_fits c.loop-p.invariant c.loop-p-test.true c.emit_premise-e.ensures)

pub emit_premises-loop-p-preserved : goal.emit_premises-loop-p-preserved
emit_premises-loop-p-preserved t c = ahead_goes c.loop-p.invariant c.loop-p-test.true c.emit_premise-e.ensures

pub emit_premises-returns : goal.emit_premises-returns
emit_premises-returns t c = ahead_ends c.loop-p.invariant c.loop-p-test.false
