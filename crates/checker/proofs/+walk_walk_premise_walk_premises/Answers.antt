use Rattle.std.proofs.Common.{◌≡◌, [], ◌∷◌, sym, ap, subst, arith, rules}
use Rattle.std.specs.Prelude.{Err}
use Rattle.calculus.specs.Syntax.{Sequent, c as connectives}
use Rattle.sequent.specs.View.{view, sequent_of}
use Rattle.sequent.specs.Compounds.{premise_by, compound_at}
use Rattle.sequent.proofs.Goods.{makes_next, premise_asks, made_is, made_good, made_stores, command_made}
use Rattle.calculus.specs.Reached.{Reachable}
use Rattle.checker.specs.Walks.{Walks}
use Rattle.checker.proofs.Walking.{cut_short, walk_stopped, walk_closed, walk_paired, walk_reduced, ahead_starts, stores_fit, ahead_goes, ahead_stops, ahead_ends}
use Rattle.checker.proofs.+walk_walk_premise_walk_premises.Goals as goal

-- ---- one command

pub walk-returns-then-d-at-lt2 : goal.walk-returns-then-d-at-lt2
walk-returns-then-d-at-lt2 t c = let a = c.args in cut_short a.d.now a.at c.if-d-at-lt2.true (sequent_of a.t.nodes.now.items a.t.items.now a.s)

pub walk-returns-in_err-next : goal.walk-returns-in_err-next
walk-returns-in_err-next t c =
    let a = c.args in
    let m = c.in_err-next in
    let e : c.from_residual.result ≡ Err m.field-0.0 = search rules in
    rw e (walk_stopped a.d.now a.at (omega (arith, c.if-d-at-lt2.false)) (sequent_of a.t.nodes.now.items a.t.items.now a.s) m.field-0.0 m.ensures.0 m.ensures.1)

pub walk-returns-in-Closed : goal.walk-returns-in-Closed
walk-returns-in-Closed t c = let a = c.args in walk_closed a.d.now a.at (omega (arith, c.if-d-at-lt2.false)) (sequent_of a.t.nodes.now.items a.t.items.now a.s) (rw c.in-Closed.is at c.in_ok-next.ensures)

pub walk-returns-in-Paired : goal.walk-returns-in-Paired
walk-returns-in-Paired t c = let a = c.args in walk_paired a.d.now a.at (omega (arith, c.if-d-at-lt2.false)) (sequent_of a.t.nodes.now.items a.t.items.now a.s) (rw c.in-Paired.is at c.in_ok-next.ensures)

pub walk-walk_premises-requires : goal.walk-walk_premises-requires
walk-walk_premises-requires t c =
    let h = c.requires in
    let m = rw c.in-Reduce.is at c.in_ok-next.ensures in
    (omega (arith, c.decreases), (h.0, h.1, m.1, omega (arith, c.if-d-at-lt2.false)))

pub walk-returns-in-Reduce : goal.walk-returns-in-Reduce
walk-returns-in-Reduce t c =
    let a = c.args in
    let w = c.walk_premises in
    let m = rw c.in-Reduce.is at c.in_ok-next.ensures in
    walk_reduced a.d.now a.at (omega (arith, c.if-d-at-lt2.false)) (sequent_of a.t.nodes.now.items a.t.items.now a.s) _ m.0 w.result.value w.ensures.walks

-- ---- a premise, made and walked

pub walk_premise-premise-made-requires : goal.walk_premise-premise-made-requires
walk_premise-premise-made-requires t c =
    let a = c.args in
    premise_asks a.t.nodes.now.items a.t.items.now a.s a.r a.p c.requires.0

pub walk_premise-walk-requires : goal.walk_premise-walk-requires
walk_premise-walk-requires t c =
    let a = c.args in
    let h = c.requires in
    let m = c.premise-made in
    let e = made_is a.t.nodes.now.items a.t.items.now a.s a.r a.p h.0 _ m.new.new m.result m.ensures in (
      omega (arith, c.decreases, ap connectives e, h.0.fewer),
      (made_good a.t.nodes.now.items a.t.items.now a.s a.r a.p h.0 _ m.new.new m.result m.ensures, subst Reachable (sym e) h.0.reached, h.1),
    )

pub walk_premise-returns : goal.walk_premise-returns
walk_premise-returns t c =
    let a = c.args in
    let h = c.requires in
    let m = c.premise-made in
    let w = c.walk in (
      subst (λ (S : Sequent). Walks a.d.now (S ∷ []) a.at w.result) (made_is a.t.nodes.now.items a.t.items.now a.s a.r a.p h.0 _ m.new.new m.result m.ensures) w.ensures,
      made_stores a.t.nodes.now.items a.t.items.now a.s a.r a.p h.0 _ m.new.new m.result m.ensures,
    )

-- ---- the loop over the premises

pub walk_premises-rule-rule-requires : goal.walk_premises-rule-rule-requires
walk_premises-rule-rule-requires t c =
    let a = c.args in
    let h = c.requires in
    ((compound_at a.t.nodes.now.items a.r.place.side a.r.place.at (view a.s a.t.items.now)).connective, sym (command_made a.t.nodes.now.items a.t.items.now a.s h.0 a.r h.2))

pub walk_premises-loop-p-init : goal.walk_premises-loop-p-init
walk_premises-loop-p-init t c =
    let a = c.args in
    ahead_starts a.d.now (premise_by a.t.nodes.now.items a.t.items.now a.s a.r) c.rule-rule.result.now a.at c.requires.3

pub walk_premises-walk_premise-m-requires : goal.walk_premises-walk_premise-m-requires
walk_premises-walk_premise-m-requires t c =
    let a = c.args in
    let h = c.requires in
    let l = c.loop-p in
    let u = c.rule-rule in (
      omega (arith, c.decreases),
      (
        makes_next a.t.nodes.now.items a.t.items.now a.s h.0 a.r h.2 u.result.now u.ensures h.1 l.p-index c.loop-p-test.true,
        omega (arith, l.invariant.inside),
      ),
    )

pub walk_premises-overflow_add-stores : goal.walk_premises-overflow_add-stores
walk_premises-overflow_add-stores t c =
    let h = c.requires in
    omega (arith, stores_fit h.0 h.2 c.rule-rule.ensures c.loop-p.invariant h.1 c.loop-p-test.true c.walk_premise-m.result c.walk_premise-m.ensures)

pub walk_premises-returns-in-Err : goal.walk_premises-returns-in-Err
walk_premises-returns-in-Err t c =
    let h = c.requires in
    ahead_stops h.0 h.2 c.rule-rule.ensures c.loop-p.invariant h.1 c.loop-p-test.true c.walk_premise-m.result c.walk_premise-m.ensures c.in-Err.f c.in-Err.is

pub walk_premises-loop-p-preserved : goal.walk_premises-loop-p-preserved
walk_premises-loop-p-preserved t c =
    let h = c.requires in
    ahead_goes h.0 h.2 c.rule-rule.ensures c.loop-p.invariant h.1 c.loop-p-test.true c.walk_premise-m.result c.walk_premise-m.ensures c.in-Ok.e c.in-Ok.is

pub walk_premises-returns : goal.walk_premises-returns
walk_premises-returns t c = let h = c.requires in ahead_ends h.0 h.2 c.rule-rule.ensures c.loop-p.invariant c.loop-p-test.false
