-- Wider limits: what was accepted is accepted, is the same question, and has the answers that it had.
-- Assumes nothing.
use mathlib.Core.Path.{◌≡◌}
use mathlib.Core.Bool.{not}
use mathlib.Core.List.{List}
use Prim.Native.Nat.{ℕ, ◌^◌, ◌≤◌, ◌<◌}
use native.Mathlib.Omega.{arith}
use Rattle.calculus.specs.declared.Kind.TheVariants.{Refuted}
use Rattle.calculus.specs.Limits.{Limits, LIMITS, LIMITS_BEFORE, Wider}
use Rattle.calculus.specs.Syntax.{Formula, letter, neg, join, Sequent}
use Rattle.calculus.specs.Bytes.{question, LetteredUnder, WithinUnder}
use Rattle.calculus.specs.Reading.{reading_under, accepted}
use Rattle.calculus.specs.Truth.{bit, truth}
use Rattle.calculus.specs.Tree.{tree}
use Rattle.calculus.specs.States.{filter, letters_under, states_over}
use Rattle.calculus.specs.Reply.{Kept}
use Rattle.calculus.proofs.Folds.{each}
use Rattle.calculus.proofs.Trees.{state_lt}
use Rattle.calculus.proofs.Budgets.{verdict_end}
use Rattle.calculus.proofs.Readings.{question_under, exactly_under}
use Rattle.calculus.proofs.Lists.{each_filter}
use Rattle.calculus.proofs.Letters.{occurs_letter, letters_below, letters_kept}
use Rattle.calculus.proofs.States.{over_state, states_below}
use Rattle.calculus.proofs.Refutations.{tree_lits}

-- ---- within wider limits

lettered_more : (m n : ℕ) → m ≤ n → (x : Formula) → LetteredUnder m x → LetteredUnder n x
lettered_more m n h (letter k) l = omega arith
lettered_more m n h (neg x) l = lettered_more m n h x l
lettered_more m n h (join b x y) l = (lettered_more m n h x l.0, lettered_more m n h y l.1)

module _ (L M : Limits) (wider : Wider L M) where
  within_more : (S : Sequent) → WithinUnder L S → WithinUnder M S
  within_more S w =
      let more = lettered_more L.letters M.letters wider.letters in
      record {
        lefts = omega (arith, w.lefts, wider.formulas);
        rights = omega (arith, w.rights, wider.formulas);
        connectives = omega (arith, w.connectives, wider.connectives);
        letters_left = each (LetteredUnder L.letters) (LetteredUnder M.letters) more S.on_left w.letters_left;
        letters_right = each (LetteredUnder L.letters) (LetteredUnder M.letters) more S.on_right w.letters_right;
      }

  -- what is accepted stays accepted; what it is, `question`, knows no limit
  pub accepted_more : (q : List ℕ) → reading_under L q ≡ accepted → reading_under M q ≡ accepted
  accepted_more q e =
      let r = (exactly_under L q).0 e in
      (exactly_under M q).1 (omega (arith, r.0, wider.longest), (r.1.0, within_more r.1.0 r.1.1, r.1.2))

  -- the law over limits: every call answers what it answered
  pub kept : (q : List ℕ) → reading_under L q ≡ accepted → Kept L M q
  kept q e =
      let S = question q in
      let w = (question_under L q e).0 in
      let a = accepted_more q e in
      let ls = letters_kept L M.letters wider.letters S w in
      let small = letters_below L.letters S in
      record {
        reads = a;
        decides = λ b. rw (a, e);
        widths = rw (a, e);
        hands_out = λ s i. rw (a, e);
        derives = λ b old. rw (a, e);
        checks = λ ds. rw (a, e);
        lists = λ old. rw (a, e, ls);
        spells = λ old. rw (a, e);
        settles = rw (a, e);
        state = λ b σ h. state_bits S w σ (verdict_end b S (Refuted σ) h (λ d. cc));
        states = rw ls (each_filter (λ σ. σ < 2 ^ L.letters) (λ σ. not (truth σ S)) (states_over (letters_under L.letters S)) (states_below L.letters (letters_under L.letters S) small));
      }
    where
      -- only letters that occur are true in the tree's state
      state_bits : (S : Sequent) → WithinUnder L S → (σ : ℕ) → (tree S).end ≡ Refuted σ → σ < 2 ^ L.letters
      state_bits S w σ h =
          let ks = letters_under L.letters S in
          let o = over_state ks σ (λ k l. occurs_letter L S w k ((rw h at (tree_lits S)) k l)) in
          rw (← o) (state_lt L.letters (filter (λ k. bit k σ) ks) (each_filter (λ k. k < L.letters) (λ k. bit k σ) ks (letters_below L.letters S)))

-- ---- document 02, d: letters up to 63

pub kept_before : (q : List ℕ) → reading_under LIMITS_BEFORE q ≡ accepted → Kept LIMITS_BEFORE LIMITS q
kept_before = kept LIMITS_BEFORE LIMITS (record { longest = omega arith; formulas = omega arith; connectives = omega arith; letters = omega arith })
