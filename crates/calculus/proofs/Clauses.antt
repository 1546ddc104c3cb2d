-- The clause profile: a clause and its formula have the same value in every state, and what the rounds decide is the truth.
-- Assumes nothing.
use mathlib.Core.Path.{◌≡◌, refl, sym, ap, ap₂, ◌∙◌}
use mathlib.Core.Logic.{◌↔◌}
use mathlib.Core.Bool.{Bool, true, false, not, ◌&&◌, ◌||◌, not-not, or-false, true≢false, false≢true}
use mathlib.Core.Option.{Option, none, some, none-ne-some}
use mathlib.Core.List.{List, [], ◌∷◌, ◌++◌}
use Prim.Native.Nat.{ℕ, ◌+◌, ◌≤◌}
use lib.Dec.{eqb}
use lib.ListN.{length}
use Rattle.calculus.specs.declared.Side.TheVariants.{Left, Right}
use Rattle.calculus.specs.declared.Kind.{Kind}
use Rattle.calculus.specs.declared.Kind.TheVariants.{Theorem, Refuted, Spent}
use Rattle.calculus.specs.declared.ClauseVerdict.{ClauseVerdict}
use Rattle.calculus.specs.declared.ClauseVerdict.TheVariants.{Theorem as theorem, Refuted as refuted}
use Rattle.calculus.specs.Fold.{fold, ANY, ALL, Each, choose}
use Rattle.calculus.specs.Limits.{Limits, RIGHT_FORMULA, NOT_CLAUSE, MANY_POSITIVE}
use Rattle.calculus.specs.Syntax.{AND, OR, IMPLIES, EQUIV, Formula, letter, neg, join, Sequent}
use Rattle.calculus.specs.Bytes.{bytes, side_start, WithinUnder}
use Rattle.calculus.specs.Truth.{bit, value, says, truth, Valid}
use Rattle.calculus.specs.Tree.{among, tree, verdict}
use Rattle.calculus.specs.States.{occurs, letters_under}
use Rattle.calculus.specs.Clauses.{Clause, both, clause_of, several, Single, Profile, outside, clauses, prepend, admit, profile_from, profile_by, profile, met, settled, fails, judge, decided, is_theorem, Below, Correct, Agrees}
use Rattle.calculus.proofs.Folds.{fold_append, or_elim, or_left, or_right, each_and, each_false}
use Rattle.calculus.proofs.Bounds.{theorem_true, tree_fine}
use Rattle.calculus.proofs.Budgets.{verdict_end}
use Rattle.calculus.proofs.Letters.{occurs_letter}
use Rattle.calculus.proofs.Rounds.{among_append, Has, rounds_bound, settled_below, false_above}

-- ---- a formula and its clause

or_both : (m n p q : Bool) → (not (m && not p) || not (n && not q)) ≡ not ((m && n) && not (p || q))
or_both false n p q = refl
or_both true false true q = refl
or_both true true true q = refl
or_both true false false q = refl
or_both true true false q = refl

-- what holds of the clauses of letters and of NOT of a letter, and of two joined if it holds of each, holds of the clause of a formula
clause_ind : (Q : Formula → Clause → Type 0)
    → ((k : ℕ) → Q (letter k) (record { negative = []; positive = k ∷ [] }))
    → ((k : ℕ) → Q (neg (letter k)) (record { negative = k ∷ []; positive = [] }))
    → ((x y : Formula) (a b : Clause) → Q x a → Q y b → Q (join OR x y) (record { negative = a.negative ++ b.negative; positive = a.positive ++ b.positive }))
    → (x : Formula) (c : Clause) → clause_of x ≡ some c → Q x c
clause_ind Q f g h (letter k) c e = let i : record { negative = []; positive = k ∷ [] } ≡ c = cc in rw (← i) (f k)
clause_ind Q f g h (neg (letter k)) c e = let i : record { negative = k ∷ []; positive = [] } ≡ c = cc in rw (← i) (g k)
clause_ind Q f g h (neg (neg x)) c e = absurd (none-ne-some c e)
clause_ind Q f g h (neg (join b x y)) c e = absurd (none-ne-some c e)
clause_ind Q f g h (join AND x y) c e = absurd (none-ne-some c e)
clause_ind Q f g h (join IMPLIES x y) c e = absurd (none-ne-some c e)
clause_ind Q f g h (join EQUIV x y) c e = absurd (none-ne-some c e)
clause_ind Q f g h (join OR x y) c e = go (clause_of x) (clause_of y) (λ d p. clause_ind Q f g h x d p) (λ d p. clause_ind Q f g h y d p) e
  where
    go : (a b : Option Clause) → ((d : Clause) → a ≡ some d → Q x d) → ((d : Clause) → b ≡ some d → Q y d) → both a b ≡ some c → Q (join OR x y) c
    go none b p q e = absurd (none-ne-some c e)
    go (some a) none p q e = absurd (none-ne-some c e)
    go (some a) (some b) p q e =
        let i : record { negative = a.negative ++ b.negative; positive = a.positive ++ b.positive } ≡ c = cc in
        rw (← i) (h x y a b (p a refl) (q b refl))

-- they have the same value in every state
pub clause_value : (σ : ℕ) (x : Formula) (c : Clause) → clause_of x ≡ some c → value σ x ≡ not (fails σ c)
clause_value σ = clause_ind (λ x c. value σ x ≡ not (fails σ c)) (λ k. plain (bit k σ)) (λ k. negated (bit k σ)) joined
  where
    plain : (b : Bool) → b ≡ not (true && not (b || false))
    plain true = refl
    plain false = refl

    negated : (b : Bool) → not b ≡ not ((b && true) && not false)
    negated true = refl
    negated false = refl

    joined : (x y : Formula) (a b : Clause) → value σ x ≡ not (fails σ a) → value σ y ≡ not (fails σ b)
        → (value σ x || value σ y) ≡ not (fails σ (record { negative = a.negative ++ b.negative; positive = a.positive ++ b.positive }))
    joined x y a b f g =
        rw (f, g, fold_append ALL (λ k. bit k σ) a.negative b.negative, fold_append ANY (λ k. bit k σ) a.positive b.positive)
        (or_both (met σ a) (met σ b) (fold ANY (λ k. bit k σ) a.positive) (fold ANY (λ k. bit k σ) b.positive))

-- its letters without NOT occur in the formula
clause_occurs : (k : ℕ) (x : Formula) (c : Clause) → clause_of x ≡ some c → among k c.positive ≡ true → occurs k x ≡ true
clause_occurs k = clause_ind (λ x c. among k c.positive ≡ true → occurs k x ≡ true) (λ m e. sym (or-false (eqb k m)) ∙ e) (λ m e. absurd (false≢true e)) joined
  where
    joined : (x y : Formula) (a b : Clause) → (among k a.positive ≡ true → occurs k x ≡ true) → (among k b.positive ≡ true → occurs k y ≡ true)
        → among k (a.positive ++ b.positive) ≡ true → (occurs k x || occurs k y) ≡ true
    joined x y a b f g e =
        or_elim (among k a.positive) (among k b.positive) (sym (among_append k a.positive b.positive) ∙ e)
        (λ l. or_left (occurs k x) (occurs k y) (f l)) (λ l. or_right (occurs k x) (occurs k y) (g l))

-- ---- a question of the profile and its clauses

-- formula by formula, each with at most one letter without NOT
abbrev Fits : List Formula → List Clause → Type 0
Fits [] [] = Unit {0}
Fits [] (c ∷ cs) = ⊥
Fits (x ∷ xs) [] = ⊥
Fits (x ∷ xs) (c ∷ cs) = (clause_of x ≡ some c) × Single c × Fits xs cs

not_outside : (n at : ℕ) (cs : List Clause) → outside n at ≡ clauses cs → ⊥
not_outside n at cs e = cc

profile_fits : (at : ℕ) (xs : List Formula) (cs : List Clause) → profile_from at xs ≡ clauses cs → Fits xs cs
profile_fits at [] cs e = let h : [] ≡ cs = cc in rw (← h) tt
profile_fits at (x ∷ xs) cs e = go (clause_of x) refl (profile_from (at + bytes x) xs) (λ ds h. profile_fits (at + bytes x) xs ds h) e
  where
    by : (c : Clause) → clause_of x ≡ some c → (b : Bool) → several c.positive ≡ b → (p : Profile) → ((ds : List Clause) → p ≡ clauses ds → Fits xs ds)
        → choose b (outside MANY_POSITIVE at) (prepend c p) ≡ clauses cs → Fits (x ∷ xs) cs
    by c h true k p ih e = absurd (not_outside MANY_POSITIVE at cs e)
    by c h false k (outside n m) ih e = absurd (not_outside n m cs e)
    by c h false k (clauses ds) ih e = let f : c ∷ ds ≡ cs = cc in rw (← f) (h, k, ih ds refl)

    go : (o : Option Clause) → clause_of x ≡ o → (p : Profile) → ((ds : List Clause) → p ≡ clauses ds → Fits xs ds)
        → admit at o p ≡ clauses cs → Fits (x ∷ xs) cs
    go none h p ih e = absurd (not_outside NOT_CLAUSE at cs e)
    go (some c) h p ih e = by c h (several c.positive) refl p ih e

fits_single : (xs : List Formula) (cs : List Clause) → Fits xs cs → Each Single cs
fits_single [] [] f = tt
fits_single [] (c ∷ cs) f = absurd f
fits_single (x ∷ xs) [] f = absurd f
fits_single (x ∷ xs) (c ∷ cs) f = (f.1, fits_single xs cs f.2)

fits_truth : (σ : ℕ) (xs : List Formula) (cs : List Clause) → Fits xs cs → fold ANY (says σ Left) xs ≡ fold ANY (fails σ) cs
fits_truth σ [] [] f = refl
fits_truth σ [] (c ∷ cs) f = absurd f
fits_truth σ (x ∷ xs) [] f = absurd f
fits_truth σ (x ∷ xs) (c ∷ cs) f = ap₂ ◌||◌ (ap not (clause_value σ x c f.0) ∙ not-not (fails σ c)) (fits_truth σ xs cs f.2)

fits_occur : (ks : List ℕ) (xs : List Formula) (cs : List Clause) → Fits xs cs → ((k : ℕ) → fold ANY (occurs k) xs ≡ true → among k ks ≡ true) → Each (Has ks) cs
fits_occur ks [] [] f h = tt
fits_occur ks [] (c ∷ cs) f h = absurd f
fits_occur ks (x ∷ xs) [] f h = absurd f
fits_occur ks (x ∷ xs) (c ∷ cs) f h = (
  λ k e. h k (or_left (occurs k x) (fold ANY (occurs k) xs) (clause_occurs k x c f.0 e)),
  fits_occur ks xs cs f.2 (λ k e. h k (or_right (occurs k x) (fold ANY (occurs k) xs) e)),
)

module _ (S : Sequent) (cs : List Clause) (e : profile S ≡ clauses cs) where
  record Profiled : Type 0 where
    rights : S.on_right ≡ []
    lefts : Fits S.on_left cs

  profiled : Profiled
  profiled = go S.on_right refl e
    where
      go : (ys : List Formula) → S.on_right ≡ ys → profile_by ys S ≡ clauses cs → Profiled
      go [] h e = record { rights = h; lefts = profile_fits (side_start Left S) S.on_left cs e }
      go (y ∷ ys) h e = absurd (not_outside RIGHT_FORMULA (side_start Right S) cs e)

  pub profile_single : Each Single cs
  profile_single = fits_single S.on_left cs profiled.lefts

  -- it is true in a state exactly if some clause is false there
  pub profile_truth : (σ : ℕ) → truth σ S ≡ fold ANY (fails σ) cs
  profile_truth σ =
      ap (λ (ys : List Formula). fold ANY (says σ Left) S.on_left || fold ANY (says σ Right) ys) profiled.rights
      ∙ or-false (fold ANY (says σ Left) S.on_left) ∙ fits_truth σ S.on_left cs profiled.lefts

  -- ---- what is decided is so

  -- each letter that is lit where the rounds end is lit in every state that makes it false
  settled_least : (ρ : ℕ) → truth ρ S ≡ false → Below (settled cs).state ρ
  settled_least ρ f = settled_below ρ cs (each_and Single (λ c. fails ρ c ≡ false) cs profile_single (each_false (λ c. fails ρ c ≡ false) (fails ρ) (λ c h. h) cs (sym (profile_truth ρ) ∙ f)))

  pub decided_correct : Correct S (decided cs)
  decided_correct = go (fold ANY (fails (settled cs).state) cs) refl
    where
      go : (b : Bool) → fold ANY (fails (settled cs).state) cs ≡ b → Correct S (judge b (settled cs))
      go true h = λ ρ. by ρ (truth ρ S) refl
        where
          by : (ρ : ℕ) (b : Bool) → truth ρ S ≡ b → b ≡ true
          by ρ true f = refl
          by ρ false f = sym f ∙ profile_truth ρ ∙ false_above cs profile_single h ρ (settled_least ρ f)
      go false h = record { refutes = profile_truth (settled cs).state ∙ h; below = settled_least }

  -- "a theorem exactly if" true in every state
  pub decided_exactly : (is_theorem (decided cs) ≡ true) ↔ Valid S
  decided_exactly = go (decided cs) decided_correct
    where
      go : (d : ClauseVerdict) → Correct S d → (is_theorem d ≡ true) ↔ Valid S
      go (theorem n) t = (λ e. t, λ v. refl)
      go (refuted σ n) t = (λ e. absurd (false≢true e), λ v. absurd (true≢false (sym (v σ) ∙ t.refutes)))

  -- beside the verdict that deciding gives, under any budget
  pub decided_agrees : (b : ℕ) → Agrees (decided cs) (verdict b S).kind
  decided_agrees b = go (decided cs) decided_correct (verdict b S).kind refl
    where
      refuting : (ρ : ℕ) → (verdict b S).kind ≡ Refuted ρ → truth ρ S ≡ false
      refuting ρ h =
          let t : (tree S).end ≡ Refuted ρ = verdict_end b S (Refuted ρ) h (λ d. cc) in
          rw t at (tree_fine S).verdict

      go : (d : ClauseVerdict) → Correct S d → (k : Kind) → (verdict b S).kind ≡ k → Agrees d k
      go (theorem n) t Theorem h = tt
      go (theorem n) t (Refuted ρ) h = true≢false (sym (t ρ) ∙ refuting ρ h)
      go (theorem n) t Spent h = tt
      go (refuted σ n) t Theorem h =
          true≢false (sym (theorem_true S (verdict_end b S Theorem h (λ d. cc)) σ) ∙ t.refutes)
      go (refuted σ n) t (Refuted ρ) h = t.below ρ (refuting ρ h)
      go (refuted σ n) t Spent h = tt

  -- "the number of rounds that lit a lamp, which is at most the number of lamps in the question"
  pub rounds_letters : (L : Limits) → WithinUnder L S → (settled cs).rounds ≤ length (letters_under L.letters S)
  rounds_letters L w =
      let ks = letters_under L.letters S in
      rounds_bound cs ks (fits_occur ks S.on_left cs profiled.lefts
      (λ k h. occurs_letter L S w k (or_left (fold ANY (occurs k) S.on_left) (fold ANY (occurs k) S.on_right) h)))
