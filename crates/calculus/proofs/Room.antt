-- The room: whatever reductions make of a question, in any order, holds at most as many formulas as both sides may have and one for
-- each connective.
-- Assumes nothing.
use mathlib.Core.Path.{◌≡◌, sym, subst}
use mathlib.Core.List.{List}
use Prim.Native.Nat.{ℕ, ◌+◌, ◌≤◌}
use native.Mathlib.Nat.{le_refl}
use native.Mathlib.Omega.{arith}
use Rattle.calculus.specs.declared.Side.{Side}
use Rattle.calculus.specs.Fold.{Each}
use Rattle.calculus.specs.Limits.{Limits, LIMITS, room}
use Rattle.calculus.specs.Syntax.{Compound, Sequent, c, size}
use Rattle.calculus.specs.Bytes.{question, WithinUnder}
use Rattle.calculus.specs.Reading.{accepted, reading, reading_under}
use Rattle.calculus.specs.Table.{Holds, premises}
use Rattle.calculus.specs.Reached.{Reached, here, from, ReachableUnder}
use Rattle.calculus.proofs.Folds.{ones, each_found, each_by}
use Rattle.calculus.proofs.Sequents.{Smaller, smaller}
use Rattle.calculus.proofs.Readings.{question_under}

-- no more connectives than where it comes from, and no more formulas and connectives together
pub reached_less : {S P : Sequent} → Reached S P → (c P ≤ c S) × (size P + c P ≤ size S + c S)
reached_less here = (le_refl _, le_refl _)
reached_less {S} {P} (from T r s i x d n e) =
    let h = reached_less r in
    let k = each_found (Smaller T) (premises s i x T) n P (smaller s i x T d) e in
    (omega (arith, h.0, k.0), omega (arith, h.1, k.1))

-- ---- within any limits

module _ (L : Limits) where
  pub reached_room : (S P : Sequent) → WithinUnder L S → Reached S P → size P ≤ room L
  reached_room S P w r = omega (arith, (reached_less r).1, w.lefts, w.rights, w.connectives, ones S.on_left, ones S.on_right)

  -- from an accepted question
  pub accepted_room : (q : List ℕ) → reading_under L q ≡ accepted → (P : Sequent) → Reached (question q) P → size P ≤ room L
  accepted_room q e P r = reached_room (question q) P (question_under L q e).0 r

  -- ---- what the run, the writer and the checker hold

  pub question_reachable : (q : List ℕ) → reading_under L q ≡ accepted → {S : Sequent} → S ≡ question q → ReachableUnder L S
  question_reachable q e {S} is = subst (ReachableUnder L) (sym is) (record { question = question q; within = (question_under L q e).0; reached = here })

  pub reachable_room : (S : Sequent) → ReachableUnder L S → size S ≤ room L
  reachable_room S r = reached_room r.question S r.within r.reached

  pub reachable_few : (S : Sequent) → ReachableUnder L S → c S ≤ L.connectives
  reachable_few S r = omega (arith, (reached_less r.reached).0, r.within.connectives)

  pub reachable_premises : (s : Side) (i : ℕ) (x : Compound) (S : Sequent) → Holds S s i x → ReachableUnder L S → Each (ReachableUnder L) (premises s i x S)
  reachable_premises s i x S d r =
      each_by (ReachableUnder L) (premises s i x S) (λ n P e. record { question = r.question; within = r.within; reached = from S r.reached s i x d n e })

-- ---- as document 02 has it

pub eighty : (q : List ℕ) → reading q ≡ accepted → (P : Sequent) → Reached (question q) P → size P ≤ 80
eighty = accepted_room LIMITS
