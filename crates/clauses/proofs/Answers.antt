-- The answers of an accepted question, and what is promised of them.
-- Assumes nothing.
use Rattle.std.specs.Prelude.{Result, Ok, Err, IfOk}
use mathlib.Core.Path.{◌≡◌, refl, sym, ap, ap₂}
use mathlib.Core.Bool.{Bool, true, false}
use mathlib.Core.List.{List, [], ◌∷◌}
use Prim.Native.Nat.{ℕ, ◌<◌}
use native.Mathlib.Omega.{arith}
use lib.ListN.{length, get_or}
use Rattle.calculus.specs.declared.Side.TheVariants.{Right}
use Rattle.calculus.specs.declared.Settled.{Settled}
use Rattle.calculus.specs.declared.ClauseVerdict.{ClauseVerdict}
use Rattle.calculus.specs.declared.ClauseVerdict.TheVariants.{Theorem as theorem, Refuted as refuted}
use Rattle.calculus.specs.Fold.{fold, ANY}
use Rattle.calculus.specs.Limits.{LIMITS, RIGHT_FORMULA}
use Rattle.calculus.specs.Syntax.{Formula, Sequent}
use Rattle.calculus.specs.Bytes.{question, side_start}
use Rattle.calculus.specs.Reading.{accepted, reading}
use Rattle.calculus.specs.Truth.{Refutes}
use Rattle.calculus.specs.Clauses.{Clause, Profile, outside, clauses, profile_by, profile, settled, fails, judge, decided, rounds_of, Correct}
use Rattle.calculus.specs.Reply.{Reply, decision_reply, profile_reply}
use Rattle.calculus.proofs.Bounds.{false_refutes}
use Rattle.calculus.proofs.Readings.{accepted_question}
use Rattle.calculus.proofs.Clauses.{decided_correct, decided_exactly, decided_agrees, rounds_letters}
use Rattle.clauses.specs.declared.NotClauses.{NotClauses}
use Rattle.clauses.specs.Answers.{reply_of, Decides}
use Rattle.clauses.proofs.Profiles.{left_of}

-- ---- a side

pub left_profile : (S : Sequent) → S.on_right ≡ [] → left_of S ≡ profile S
left_profile S h = ap (λ (ys : List Formula). profile_by ys S) (sym h)

pub right_formula : (S : Sequent) (at n : ℕ) → at ≡ side_start Right S → n ≡ length S.on_right → 0 < n
    → record { number = RIGHT_FORMULA; values = at ∷ [] } ≡ profile_reply (profile S)
right_formula S at n e f h = go S.on_right f
  where
    go : (ys : List Formula) → n ≡ length ys → record { number = RIGHT_FORMULA; values = at ∷ [] } ≡ profile_reply (profile_by ys S)
    go [] g = absurd (omega arith)
    go (y ∷ ys) g = ap (λ (p : ℕ). record { number = RIGHT_FORMULA; values = p ∷ [] }) e

-- ---- what is promised

-- a verdict has three values, a refusal one
three : (v : ClauseVerdict) → length (decision_reply v).values ≡ 3
three (theorem n) = refl
three (refuted σ n) = refl

not_one : (v : ClauseVerdict) (n at : ℕ) → record { number = n; values = at ∷ [] } ≡ decision_reply v → ⊥
not_one v n at e = omega (arith, three v, ap (λ (r : Reply). length r.values) e)

reply_tells : (v w : ClauseVerdict) → decision_reply v ≡ decision_reply w → v ≡ w
reply_tells (theorem m) (theorem n) e = ap theorem (ap (λ (r : Reply). get_or r.values 2 0) e)
reply_tells (theorem m) (refuted σ n) e = absurd (omega (arith, ap (λ (r : Reply). get_or r.values 0 0) e))
reply_tells (refuted τ m) (theorem n) e = absurd (omega (arith, ap (λ (r : Reply). get_or r.values 0 0) e))
reply_tells (refuted τ m) (refuted σ n) e = ap₂ (λ (x y : ℕ). refuted x y) (ap (λ (r : Reply). get_or r.values 1 0) e) (ap (λ (r : Reply). get_or r.values 2 0) e)

rounds_judged : (b : Bool) (s : Settled) → rounds_of (judge b s) ≡ s.rounds
rounds_judged true s = refl
rounds_judged false s = refl

module _ (q : List ℕ) (a : reading q ≡ accepted) where
  refuting : (v : ClauseVerdict) → Correct (question q) v → (σ n : ℕ) → v ≡ refuted σ n → Refutes σ (question q)
  refuting v h σ n e = false_refutes (question q) σ ((rw e at h).refutes)

  decision_holds : (cs : List Clause) → profile (question q) ≡ clauses cs → Decides q (decided cs)
  decision_holds cs p =
      record {
        read = a;
        exactly = decided_exactly (question q) cs p;
        correct = decided_correct (question q) cs p;
        refutes = refuting (decided cs) (decided_correct (question q) cs p);
        agrees = decided_agrees (question q) cs p;
        rounds = omega (arith, rounds_judged (fold ANY (fails (settled cs).state) cs) (settled cs), rounds_letters (question q) cs p LIMITS (accepted_question q a).0);
      }

  verdict_decides : (v : ClauseVerdict) → decision_reply v ≡ profile_reply (profile (question q)) → Decides q v
  verdict_decides v e = go (profile (question q)) refl e
    where
      go : (p : Profile) → profile (question q) ≡ p → decision_reply v ≡ profile_reply p → Decides q v
      go (outside n at) p e = absurd (not_one v n at (sym e))
      go (clauses cs) p e = rw (reply_tells v (decided cs) e) (decision_holds cs p)

  pub promised : (r : Result ClauseVerdict NotClauses) → reply_of r ≡ profile_reply (profile (question q)) → IfOk r (Decides q)
  promised (Ok v) e = verdict_decides v e
  promised (Err r) e = tt
