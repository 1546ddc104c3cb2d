-- Demands 2 and 3 of the verdict that the definitions give.
-- Assumes nothing.
use mathlib.Core.Path.{◌≡◌, sym, ap, ◌∙◌}
use mathlib.Core.List.{List}
use Prim.Native.Nat.{ℕ, ◌≤◌, ◌<◌}
use native.Mathlib.Decide.{dec_lt}
use native.Mathlib.Omega.{arith}
use Rattle.calculus.specs.declared.Kind.{Kind}
use Rattle.calculus.specs.declared.Kind.TheVariants.{Theorem, Refuted, Spent}
use Rattle.calculus.specs.declared.Outcome.{Outcome}
use Rattle.calculus.specs.declared.Verdict.{Verdict}
use Rattle.calculus.specs.Syntax.{Sequent}
use Rattle.calculus.specs.Bytes.{question}
use Rattle.calculus.specs.Reading.{accepted, reading}
use Rattle.calculus.specs.Tree.{tree, reductions, outcome, verdict}
use Rattle.calculus.proofs.Bounds.{theorem_true, theorem_exactly, refuted_false, reductions_bound, closings_bound}
use Rattle.calculus.proofs.Budgets.{spent_exactly, spent_verdict, whole_verdict, spend_left}
use Rattle.prover.specs.Answers.{Truthful, Counted, Promised}

-- The verdict is Spent, or it is the tree's.
kinds : {Q : Type 0} (b : ℕ) (S : Sequent) → ((verdict b S).kind ≡ Spent → Q) → ((verdict b S).kind ≡ (tree S).end → Q) → Q
kinds {Q} b S f g = go (dec_lt b (reductions (tree S).events))
  where
    go : Dec (b < reductions (tree S).events) → Q
    go (yes h) = f (ap (λ (v : Verdict). v.kind) (spent_verdict b S h))
    go (no h) = g (ap (λ (v : Verdict). v.kind) (whole_verdict b S (omega arith)))

truthful : (b : ℕ) (S : Sequent) → Truthful S (verdict b S)
truthful b S =
    record {
      sound = λ e. kinds b S (λ s. absurd (apart s e)) (λ t. theorem_true S (sym t ∙ e));
      complete = λ n v. kinds b S (λ s. absurd (n s)) (λ t. t ∙ (theorem_exactly S).1 v);
      refutes = λ σ e. kinds b S (λ s. absurd (apart_refuted σ s e)) (λ t. refuted_false S σ (sym t ∙ e));
    }
  where
    apart : {k : Kind} → k ≡ Spent → k ≡ Theorem → ⊥
    apart s e = let z : ◌≡◌ {A = ℕ} 0 1 = cc in omega arith

    apart_refuted : {k : Kind} (σ : ℕ) → k ≡ Spent → k ≡ Refuted σ → ⊥
    apart_refuted σ s e = let z : ◌≡◌ {A = ℕ} 0 1 = cc in omega arith

counted : (b : ℕ) (S : Sequent) → Counted S b (verdict b S)
counted b S =
    record {
      reductions_bound = reductions_bound S;
      closings_bound = closings_bound S;
      spent_exactly = spent_exactly b S;
      spent = spent_verdict b S;
      otherwise = whole_verdict b S;
    }

-- ---- the answers

module _ (q : List ℕ) (b : ℕ) where
  pub promised : reading q ≡ accepted → Promised q b (verdict b (question q))
  promised a = record { read = a; truthful = truthful b (question q); counted = counted b (question q) }

  pub budget_left : (o : Outcome) → o ≡ outcome b (question q) → o.unspent ≤ b
  budget_left o e = rw e (spend_left b (tree (question q)).events (tree (question q)).end)
