-- What a budget makes of the tree, and that the run, step by step, gives just that.
-- Assumes nothing.
use mathlib.Core.Path.{◌≡◌, refl, sym, ap, ◌∙◌, fun_ext}
use mathlib.Core.Logic.{◌≢◌, ◌↔◌}
use mathlib.Core.Option.{Option, none, some}
use mathlib.Core.List.{List, [], ◌∷◌, ◌++◌}
use Prim.Native.Nat.{ℕ, zero, suc, ◌+◌, ◌-◌, ◌≤◌, ◌<◌}
use native.Mathlib.Decide.{dec_lt}
use native.Mathlib.Nat.{add_assoc, sub-zero, zero-add, le_refl}
use native.Mathlib.Numerals.{sub-one}
use native.Mathlib.Omega.{arith}
use Rattle.calculus.specs.declared.Kind.{Kind}
use Rattle.calculus.specs.declared.Kind.TheVariants.{Theorem, Refuted, Spent}
use Rattle.calculus.specs.declared.Outcome.{Outcome}
use Rattle.calculus.specs.declared.Verdict.{Verdict}
use Rattle.calculus.specs.Fold.{Each}
use Rattle.calculus.specs.Syntax.{Sequent, c}
use Rattle.calculus.specs.Table.{premises}
use Rattle.calculus.specs.Tree.{Way, closing, missing, Step, closed, opened, reduced, tests, step, Event, close, reduce, Tree, follow, chain, grow, leaf, tree, reductions, closings, pairings, one_more, spend, outcome, verdict, closings_before, afford, inner, and_then, pass, act, run_by, run}
use Rattle.calculus.proofs.Folds.{each}
use Rattle.calculus.proofs.Sequents.{Smaller, smaller}
use Rattle.calculus.proofs.Trees.{Right_step, right_step, bare_tests, tree_grows}
use Rattle.calculus.proofs.Bounds.{never_spent}

-- ---- what is reported

-- a budget that suffices: the tree's end and its counts
pub spend_whole : (b : ℕ) (es : List Event) (e : Kind) → reductions es ≤ b
    → spend b es e ≡ record { kind = e; unspent = b - reductions es; closings = closings es; pairings = pairings es }
spend_whole b [] e h = rw sub-zero
spend_whole b (close w ∷ es) e h = rw (spend_whole b es e (omega arith), zero-add)
spend_whole zero (reduce s i k ∷ es) e h = absurd (omega arith)
spend_whole (suc b) (reduce s i k ∷ es) e h =
    let q : suc b - (1 + reductions es) ≡ b - reductions es = omega arith in
    rw (q, zero-add (closings es), zero-add (pairings es)) (spend_whole b es e (omega arith))

-- one that does not: SPENT, and nothing is left
pub spend_spent : (b : ℕ) (es : List Event) (e : Kind) → b < reductions es → ((spend b es e).kind ≡ Spent) × ((spend b es e).unspent ≡ 0)
spend_spent b [] e h = absurd (omega arith)
spend_spent b (close w ∷ es) e h = spend_spent b es e (omega arith)
spend_spent zero (reduce s i k ∷ es) e h = (refl, refl)
spend_spent (suc b) (reduce s i k ∷ es) e h = spend_spent b es e (omega arith)

pub spend_closings : (b : ℕ) (es : List Event) (e : Kind) → (spend b es e).closings ≡ closings_before b es
spend_closings b [] e = refl
spend_closings b (close w ∷ es) e = rw (spend_closings b es e)
spend_closings zero (reduce s i k ∷ es) e = refl
spend_closings (suc b) (reduce s i k ∷ es) e = spend_closings b es e

-- SPENT exactly if the budget is below the tree's reductions
pub spent_exactly : (b : ℕ) (S : Sequent) → ((verdict b S).kind ≡ Spent) ↔ (b < reductions (tree S).events)
spent_exactly b S = (λ e. go e (dec_lt b (reductions (tree S).events)), λ h. (spend_spent b (tree S).events (tree S).end h).0)
  where
    go : (outcome b S).kind ≡ Spent → Dec (b < reductions (tree S).events) → b < reductions (tree S).events
    go e (yes h) = h
    go e (no h) =
        let k = ap (λ (o : Outcome). o.kind) (spend_whole b (tree S).events (tree S).end (omega arith)) in
        absurd (never_spent S (sym k ∙ e))

-- where it is a theorem, the budget sufficed
pub theorem_whole : (b : ℕ) (S : Sequent) → (outcome b S).kind ≡ Theorem → reductions (tree S).events ≤ b
theorem_whole b S e = elim (dec_lt b (reductions (tree S).events)) [ yes h ↦ absurd (spent_no (sym (spend_spent b (tree S).events (tree S).end h).0 ∙ e)) | no h ↦ omega arith ]
  where
    spent_no : Spent ≡ Theorem → ⊥
    spent_no q = cc

-- it then reports its budget as reductions, and the closings before the tree's next reduction
pub spent_verdict : (b : ℕ) (S : Sequent) → b < reductions (tree S).events
    → verdict b S ≡ record { kind = Spent; reductions = b; closings = closings_before b (tree S).events }
spent_verdict b S h =
    let e = spend_spent b (tree S).events (tree S).end h in
    λ i. record { kind = e.0 i; reductions = (ap (λ (n : ℕ). b - n) e.1 ∙ sub-zero b) i; closings = spend_closings b (tree S).events (tree S).end i }

-- otherwise r and k, and the tree's verdict
pub whole_verdict : (b : ℕ) (S : Sequent) → reductions (tree S).events ≤ b
    → verdict b S ≡ record { kind = (tree S).end; reductions = reductions (tree S).events; closings = closings (tree S).events }
whole_verdict b S h =
    let e = spend_whole b (tree S).events (tree S).end h in
    let r : b - (b - reductions (tree S).events) ≡ reductions (tree S).events = omega arith in
    ap (λ (o : Outcome). record { kind = o.kind; reductions = b - o.unspent; closings = o.closings }) e ∙ rw r

-- so a verdict that is not SPENT is of the whole tree, and its kind the tree's end
pub verdict_whole : (b : ℕ) (S : Sequent) (e : Kind) → (verdict b S).kind ≡ e → e ≢ Spent → reductions (tree S).events ≤ b
verdict_whole b S e h n = go (dec_lt b (reductions (tree S).events))
  where
    go : Dec (b < reductions (tree S).events) → reductions (tree S).events ≤ b
    go (yes l) = absurd (n (sym h ∙ (spent_exactly b S).1 l))
    go (no l) = omega arith

pub verdict_end : (b : ℕ) (S : Sequent) (e : Kind) → (verdict b S).kind ≡ e → e ≢ Spent → (tree S).end ≡ e
verdict_end b S e h n = ap (λ (v : Verdict). v.kind) (sym (whole_verdict b S (verdict_whole b S e h n))) ∙ h

-- the budget bounds what is left
pub spend_left : (b : ℕ) (es : List Event) (e : Kind) → (spend b es e).unspent ≤ b
spend_left b [] e = omega arith
spend_left b (close w ∷ es) e = spend_left b es e
spend_left zero (reduce s i k ∷ es) e = omega arith
spend_left (suc b) (reduce s i k ∷ es) e = omega (arith, spend_left b es e)

-- ---- the run under a budget, sequent by sequent

spend_append : (b : ℕ) (es fs : List Event) (e : Kind)
    → spend b (es ++ fs) e ≡ and_then (spend b es Theorem).kind (spend b es Theorem) (λ l. spend l fs e)
spend_append b [] fs e = simp zero-add
spend_append b (close w ∷ es) fs e = rw (spend_append b es fs e) (count_after (spend b es Theorem).kind (spend b es Theorem) (λ l. spend l fs e))
  where
    count_after : (q : Kind) (o : Outcome) (u : ℕ → Outcome) → one_more w (and_then q o u) ≡ and_then q (one_more w o) u
    count_after Theorem o u = simp (one_more, add_assoc)
    count_after (Refuted σ) o u = refl
    count_after Spent o u = refl
spend_append zero (reduce s i k ∷ es) fs e = refl
spend_append (suc b) (reduce s i k ∷ es) fs e = spend_append b es fs e

spend_stop : (b : ℕ) (es : List Event) (e : Kind) → ((o : Outcome) (u : ℕ → Outcome) → and_then e o u ≡ o) → (o : Outcome) (u : ℕ → Outcome)
    → and_then (spend b es e).kind o u ≡ o
spend_stop b [] e h = h
spend_stop b (close w ∷ es) e h = spend_stop b es e h
spend_stop zero (reduce s i k ∷ es) e h = λ o u. refl
spend_stop (suc b) (reduce s i k ∷ es) e h = spend_stop b es e h

spend_follow : (b : ℕ) (es : List Event) (e : Kind) (t : Tree)
    → spend b (follow es e t).events (follow es e t).end ≡ and_then (spend b es e).kind (spend b es e) (λ l. spend l t.events t.end)
spend_follow b es Theorem t = spend_append b es t.events t.end
spend_follow b es (Refuted σ) t = sym (spend_stop b es (Refuted σ) (λ o u. refl) (spend b es (Refuted σ)) (λ l. spend l t.events t.end))
spend_follow b es Spent t = sym (spend_stop b es Spent (λ o u. refl) (spend b es Spent) (λ l. spend l t.events t.end))

spend_chain : (r : Sequent → Tree) (b : ℕ) (Ps : List Sequent)
    → spend b (chain r Ps).events (chain r Ps).end ≡ pass (λ l P. spend l (r P).events (r P).end) b Ps
spend_chain r b [] = refl
spend_chain r b (P ∷ Ps) =
    spend_follow b (r P).events (r P).end (chain r Ps)
    ∙ ap (and_then (spend b (r P).events (r P).end).kind (spend b (r P).events (r P).end)) (fun_ext (λ l. spend_chain r l Ps))

outcome_act : (b : ℕ) (S : Sequent) (t : Step) → spend b (grow tree S t).events (grow tree S t).end ≡ act outcome b S (afford b t)
outcome_act b S (closed w) = refl
outcome_act b S (opened σ) = refl
outcome_act zero S (reduced s i x) = refl
outcome_act (suc b) S (reduced s i x) = rw (sub-one (suc b)) (spend_chain tree b (premises s i x S))

-- what the inner step asks for is done, with the budget going in and what is left of it coming out
pub outcome_step : (b : ℕ) (S : Sequent) → outcome b S ≡ act outcome b S (inner b S)
outcome_step b S = ap (λ (t : Tree). spend b t.events t.end) (tree_grows S) ∙ outcome_act b S (step S)

pass_same : (r q : ℕ → Sequent → Outcome) (b : ℕ) (Ps : List Sequent) → Each (λ P. (l : ℕ) → r l P ≡ q l P) Ps → pass r b Ps ≡ pass q b Ps
pass_same r q b [] h = refl
pass_same r q b (P ∷ Ps) h =
    ap (λ (o : Outcome). and_then o.kind o (λ l. pass r l Ps)) (h.0 b)
    ∙ ap (and_then (q b P).kind (q b P)) (fun_ext (λ l. pass_same r q l Ps h.1))

act_same : (r : ℕ → Sequent → Outcome) (b : ℕ) (S : Sequent) → ((l : ℕ) (P : Sequent) → Smaller S P → r l P ≡ outcome l P) → (t : Step)
    → Right_step S t → act r b S (afford b t) ≡ act outcome b S (afford b t)
act_same r b S h (closed w) p = refl
act_same r b S h (opened σ) p = refl
act_same r zero S h (reduced s i x) p = refl
act_same r (suc b) S h (reduced s i x) p =
    pass_same r outcome (suc b - 1) (premises s i x S)
    (each (Smaller S) (λ P. (l : ℕ) → r l P ≡ outcome l P) (λ P k l. h l P k) (premises s i x S) (smaller s i x S p))

-- where no connective is left
run_bare : (b : ℕ) (S : Sequent) (o : Option Way) → spend b (leaf S o).events (leaf S o).end ≡ act outcome b S (afford b (tests S o missing missing))
run_bare b S none = refl
run_bare b S (some w) = refl

-- whatever number is counted from, if there are no more connectives
pub run_enough : (n b : ℕ) (S : Sequent) → c S ≤ n → run_by n b S ≡ outcome b S
run_enough zero b S h =
    run_bare b S (closing S) ∙ ap (λ (t : Step). act outcome b S (afford b t)) (sym (bare_tests S (closing S) (omega arith))) ∙ sym (outcome_step b S)
run_enough (suc n) b S h =
    act_same (λ l P. run_by n l P) b S (λ l P k. run_enough n l P (omega arith)) (step S) (right_step S) ∙ sym (outcome_step b S)

-- the run gives what the tree gives, for every budget
pub run_outcome : (b : ℕ) (S : Sequent) → run b S ≡ outcome b S
run_outcome b S = run_enough (c S) b S (le_refl _)
