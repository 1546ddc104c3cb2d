-- Derivations: the checker passes exactly these, what has one is true in every state, and the run writes one of each theorem.
-- Assumes nothing.
use mathlib.Core.Path.{◌≡◌, refl, sym, ap, ◌∙◌}
use mathlib.Core.Logic.{◌↔◌, ◌⊎◌, inl, inr}
use mathlib.Core.Bool.{Bool, true, false, ◌&&◌}
use mathlib.Core.Option.{Option, none, some, none-ne-some}
use mathlib.Core.List.{List, [], ◌∷◌, ◌++◌, append_assoc, append-nil}
use Prim.Native.Nat.{ℕ, zero, suc, ◌+◌, ◌-◌, ◌*◌, ◌≤◌}
use native.Mathlib.Nat.{add-zero, add-mul, mul-add, mul-le-mul_right, one-le-mul}
use native.Mathlib.Omega.{arith}
use lib.Dec.{eqb}
use lib.ListN.{length, get_elem?, length-append}
use borrow.Author.Tests.{eqb-true, eq-eqb}
use Rattle.calculus.specs.declared.Side.{Side}
use Rattle.calculus.specs.declared.Side.TheVariants.{Left, Right}
use Rattle.calculus.specs.declared.Kind.{Kind}
use Rattle.calculus.specs.declared.Kind.TheVariants.{Theorem, Refuted, Spent}
use Rattle.calculus.specs.declared.Outcome.{Outcome}
use Rattle.calculus.specs.Fold.{fold, ALL, SUM, Each, choose}
use Rattle.calculus.specs.Limits.{CUT_SHORT, NO_FORMULA, OTHER_CONNECTIVE, NOT_CLOSED, NOT_EQUAL}
use Rattle.calculus.specs.Syntax.{AND, OR, IMPLIES, EQUIV, Connective, NOT, two, Formula, letter, neg, join, Compound, compound, whole, Sequent, on_side, connectives, c}
use Rattle.calculus.specs.Bytes.{CONNECTIVE, code, same}
use Rattle.calculus.specs.Truth.{truth, Valid}
use Rattle.calculus.specs.Table.{premises}
use Rattle.calculus.specs.Tree.{letters, among, lettered, paired, Step, closed, opened, reduced, Event, close, reduce, Tree, follow, chain, grow, tree, reductions, closings, pairings, outcome}
use Rattle.calculus.specs.Width.{W}
use Rattle.calculus.specs.Derivation.{Order, CLOSE, PAIR, REDUCE, order_code, orders, order, written, written_all, derivation, Derivation, by_letter, by_pair, by_rule, Derivations, none_left, then, Move, fault, waiting, shut, named, equals, pairs, obey, passes, faulty, proceed, check, checking}
use Rattle.calculus.proofs.Folds.{not_so, found}
use Rattle.calculus.proofs.Spelling.{code_injective, same_eq, same_self}
use Rattle.calculus.proofs.Sequents.{truth_premises, width_premises, Smaller, smaller}
use Rattle.calculus.proofs.Trees.{Letter, Right_step, closed_true, tree_ind}
use Rattle.calculus.proofs.Bounds.{W_pos}
use Rattle.calculus.proofs.Budgets.{spend_whole, theorem_whole}

-- ---- what has a derivation is true in every state

mutual
  pub derivation_true : {S : Sequent} {ds : List ℕ} → Derivation S ds → (σ : ℕ) → truth σ S ≡ true
  derivation_true (by_letter {S = S} k h e) σ = closed_true S (lettered k) (h.lefts, h.rights) σ
  derivation_true (by_pair {S = S} i j h e) σ = closed_true S (paired i j) h σ
  derivation_true (by_rule {S = S} s i x h d e) σ = truth_premises σ s i x S h ∙ derivations_true d σ

  derivations_true : {Ps : List Sequent} {ds : List ℕ} → Derivations Ps ds → (σ : ℕ) → fold ALL (truth σ) Ps ≡ true
  derivations_true none_left σ = refl
  derivations_true (then d e h) σ = rw (derivation_true d σ) (derivations_true e σ)

-- ---- the checker passes each

pub order_code_lem : (o : Order) → order (order_code o) ≡ some o
order_code_lem CLOSE = refl
order_code_lem PAIR = refl
order_code_lem (REDUCE Left NOT) = refl
order_code_lem (REDUCE Left (two AND)) = refl
order_code_lem (REDUCE Left (two OR)) = refl
order_code_lem (REDUCE Left (two IMPLIES)) = refl
order_code_lem (REDUCE Left (two EQUIV)) = refl
order_code_lem (REDUCE Right NOT) = refl
order_code_lem (REDUCE Right (two AND)) = refl
order_code_lem (REDUCE Right (two OR)) = refl
order_code_lem (REDUCE Right (two IMPLIES)) = refl
order_code_lem (REDUCE Right (two EQUIV)) = refl

pub order_byte : (b : ℕ) (o : Order) → order b ≡ some o → order_code o ≡ b
order_byte b o e = eqb-true (order_code o) b (found (λ p. eqb (order_code p) b) orders o e)

pub named_whole : (s : Side) (i : ℕ) (x : Compound) (S : Sequent) → named s i x.connective S (some (whole x)) ≡ waiting (premises s i x S)
named_whole s i x S = go x.connective x.f x.g
  where
    go : (k : Connective) (y z : Formula)
        → named s i k S (some (whole (record { connective = k; f = y; g = z }))) ≡ waiting (premises s i (record { connective = k; f = y; g = z }) S)
    go NOT y z = one_part s
      where
        one_part : (t : Side) → waiting (premises t i (record { connective = NOT; f = y; g = y }) S) ≡ waiting (premises t i (record { connective = NOT; f = y; g = z }) S)
        one_part Left = refl
        one_part Right = refl
    go (two b) y z = rw (eq-eqb (code (CONNECTIVE (two b))) (code (CONNECTIVE (two b))) refl)

pub pairs_whole : (x : Compound) → pairs (some (whole x)) (some (whole x)) ≡ shut
pairs_whole x = go x.connective x.f x.g
  where
    go : (k : Connective) (y z : Formula) → equals (compound k y z) (compound k y z) ≡ shut
    go NOT y z = rw (same_self y)
    go (two b) y z = rw (same_self (join b y z))

differ : (x y : Formula) → (x ≡ y → ⊥) → same x y ≡ false
differ x y h = not_so (same x y) (λ e. h (same_eq x y e))

-- "the two formulas named by 42 differ or are letters"
pub equals_not : (x y : Formula) → (x ≡ y → Letter x) → equals x y ≡ fault NOT_EQUAL
equals_not (letter k) y h = refl
equals_not (neg x) y h = rw (differ (neg x) y h)
equals_not (join b x z) y h = rw (differ (join b x z) y h)

-- a command of two bytes leaves what it says, whatever follows
abbrev following : List ℕ → Option ℕ
following [] = none
following (j ∷ bs) = some j

check_two : (b i : ℕ) (bs : List ℕ) (P : Sequent) (Ps Qs : List Sequent) (at : ℕ) → obey (order b) i (following bs) P ≡ waiting Qs
    → check (b ∷ i ∷ bs) (P ∷ Ps) at ≡ check bs (Qs ++ Ps) (at + 2)
check_two b i [] P Ps Qs at e = rw e
check_two b i (j ∷ bs) P Ps Qs at e = rw e

mutual
  derivation_checks : {S : Sequent} {ds : List ℕ} → Derivation S ds → (es : List ℕ) (Qs : List Sequent) (at : ℕ)
      → check (ds ++ es) (S ∷ Qs) at ≡ check es Qs (at + length ds)
  derivation_checks (by_letter {S = S} k h e) es Qs at = rw e (check_two (order_code CLOSE) k es S Qs [] at (rw (h.lefts, h.rights)))
  derivation_checks (by_pair i j h e) es Qs at = rw (e, h.lefts, h.rights, pairs_whole h.x)
  derivation_checks (by_rule {S = S} {es = fs} s i x h d e) es Qs at =
      let p : at + 2 + length fs ≡ at + suc (suc (length fs)) = omega arith in
      rw e (check_two (order_code (REDUCE s x.connective)) i (fs ++ es) S Qs (premises s i x S) at (rw (order_code_lem (REDUCE s x.connective), h) (named_whole s i x S))
      ∙ derivations_check d es Qs (at + 2) ∙ ap (check es Qs) p)

  derivations_check : {Ps : List Sequent} {ds : List ℕ} → Derivations Ps ds → (es : List ℕ) (Qs : List Sequent) (at : ℕ)
      → check (ds ++ es) (Ps ++ Qs) at ≡ check es Qs (at + length ds)
  derivations_check none_left es Qs at = rw add-zero
  derivations_check (then {Ps = Ps} {es = hs} {fs = fs} d e h) es Qs at =
      let p : at + length hs + length fs ≡ at + length (hs ++ fs) = omega (arith, length-append hs fs) in
      rw (h, append_assoc hs fs es) (derivation_checks d (fs ++ es) (Ps ++ Qs) at ∙ derivations_check e es Qs (at + length hs) ∙ ap (check es Qs) p)

-- ---- and nothing else

derivations_split : (Ps Qs : List Sequent) (ds : List ℕ) → Derivations (Ps ++ Qs) ds
    → (es : List ℕ) × (fs : List ℕ) × Derivations Ps es × Derivations Qs fs × (ds ≡ es ++ fs)
derivations_split [] Qs ds d = ([], ds, none_left, d, refl)
derivations_split (P ∷ Ps) Qs ds (then {es = hs} {fs = ks} d e h) =
    let r = derivations_split Ps Qs ks e in
    (hs ++ r.0, r.1, then d r.2 refl, r.3, h ∙ ap (λ (l : List ℕ). hs ++ l) r.4 ∙ sym (append_assoc hs r.0 r.1))

-- what a command leaves waiting
abbrev pub Obeyed : Sequent → ℕ → ℕ → Option ℕ → Move → Type 0
Obeyed S b i o (fault n) = Unit {0}
Obeyed S b i o (waiting Qs) = (ds : List ℕ) → Derivations Qs ds → Derivation S (b ∷ i ∷ ds)
Obeyed S b i none shut = ⊥
Obeyed S b i (some j) shut = Derivation S (b ∷ i ∷ j ∷ [])

pub obeyed : (b i : ℕ) (o : Option ℕ) (S : Sequent) → Obeyed S b i o (obey (order b) i o S)
obeyed b i o S = go (order b) refl o
  where
    none_more : (ds : List ℕ) → Derivations [] ds → ds ≡ []
    none_more ds none_left = refl

    shuts : (t u : Bool) → among i (letters S.on_left) ≡ t → among i (letters S.on_right) ≡ u → order_code CLOSE ≡ b → (o : Option ℕ) → Obeyed S b i o (choose (t && u) (waiting []) (fault NOT_CLOSED))
    shuts true true p q e o =
        λ ds d. by_letter i (record { lefts = p; rights = q }) (ap (λ (n : ℕ). n ∷ i ∷ ds) (sym e) ∙ ap (λ (l : List ℕ). order_code CLOSE ∷ i ∷ l) (none_more ds d))
    shuts true false p q e o = tt
    shuts false u p q e o = tt

    twin : (j : ℕ) (x : Compound) (y : Formula) → get_elem? S.on_left i ≡ some (whole x) → get_elem? S.on_right j ≡ some y → order_code PAIR ≡ b
        → (t : Bool) → same (whole x) y ≡ t → Obeyed S b i (some j) (choose t shut (fault NOT_EQUAL))
    twin j x y p q e true d =
        by_pair i j (record { x = x; lefts = p; rights = q ∙ ap some (sym (same_eq (whole x) y d)) }) (ap (λ (n : ℕ). n ∷ i ∷ j ∷ []) (sym e))
    twin j x y p q e false d = tt

    twins : (j : ℕ) (m n : Option Formula) → get_elem? S.on_left i ≡ m → get_elem? S.on_right j ≡ n → order_code PAIR ≡ b
        → Obeyed S b i (some j) (pairs m n)
    twins j none n p q e = tt
    twins j (some x) none p q e = tt
    twins j (some (letter k)) (some y) p q e = tt
    twins j (some (neg x)) (some y) p q e = twin j (record { connective = NOT; f = x; g = x }) y p q e (same (neg x) y) refl
    twins j (some (join o x z)) (some y) p q e = twin j (record { connective = two o; f = x; g = z }) y p q e (same (join o x z) y) refl

    rule : (s : Side) (k : Connective) (x : Compound) → get_elem? (on_side s S) i ≡ some (whole x) → order_code (REDUCE s k) ≡ b
        → (t : Bool) → (t ≡ true → k ≡ x.connective) → (o : Option ℕ) → Obeyed S b i o (choose t (waiting (premises s i x S)) (fault OTHER_CONNECTIVE))
    rule s k x h e true f o = λ ds d. by_rule s i x h d (ap (λ (n : ℕ). n ∷ i ∷ ds) (sym e) ∙ ap (λ (j : Connective). order_code (REDUCE s j) ∷ i ∷ ds) (f refl))
    rule s k x h e false f o = tt

    alike : (j k : Connective) → eqb (code (CONNECTIVE j)) (code (CONNECTIVE k)) ≡ true → j ≡ k
    alike j k e = cc (code_injective (CONNECTIVE j) (CONNECTIVE k) (eqb-true (code (CONNECTIVE j)) (code (CONNECTIVE k)) e))

    names : (s : Side) (k : Connective) → order_code (REDUCE s k) ≡ b → (m : Option Formula) → get_elem? (on_side s S) i ≡ m → (o : Option ℕ) → Obeyed S b i o (named s i k S m)
    names s k e none h o = tt
    names s k e (some (letter j)) h o = tt
    names s k e (some (neg x)) h o = rule s k (record { connective = NOT; f = x; g = x }) h e (eqb (code (CONNECTIVE k)) (code (CONNECTIVE NOT))) (alike k NOT) o
    names s k e (some (join c x y)) h o = rule s k (record { connective = two c; f = x; g = y }) h e (eqb (code (CONNECTIVE k)) (code (CONNECTIVE (two c)))) (alike k (two c)) o

    go : (r : Option Order) → order b ≡ r → (o : Option ℕ) → Obeyed S b i o (obey r i o S)
    go none e o = tt
    go (some CLOSE) e o = shuts (among i (letters S.on_left)) (among i (letters S.on_right)) refl refl (order_byte b CLOSE e) o
    go (some PAIR) e none = tt
    go (some PAIR) e (some j) = twins j (get_elem? S.on_left i) (get_elem? S.on_right j) refl refl (order_byte b PAIR e)
    go (some (REDUCE s k)) e o = names s k (order_byte b (REDUCE s k) e) (get_elem? (on_side s S) i) refl o

-- what a command of two bytes left waiting, and then the rest
two_bytes : (b i : ℕ) (bs : List ℕ) (P : Sequent) (Ps Qs : List Sequent) → ((ds : List ℕ) → Derivations Qs ds → Derivation P (b ∷ i ∷ ds))
    → Derivations (Qs ++ Ps) bs → Derivations (P ∷ Ps) (b ∷ i ∷ bs)
two_bytes b i bs P Ps Qs o d =
    let r = derivations_split Qs Ps bs d in
    then (o r.0 r.2) r.3 (ap (λ (l : List ℕ). b ∷ i ∷ l) r.4)

not_faulty : {Q : Type 0} (n at : ℕ) → faulty n at ≡ passes → Q
not_faulty n at e = absurd cc

checked_derivations : (ds : List ℕ) (Ps : List Sequent) (at : ℕ) → check ds Ps at ≡ passes → Derivations Ps ds
checked_derivations [] [] at e = none_left
checked_derivations [] (P ∷ Ps) at e = not_faulty _ _ e
checked_derivations (b ∷ []) [] at e = not_faulty _ _ e
checked_derivations (b ∷ []) (P ∷ Ps) at e = not_faulty _ _ e
checked_derivations (b ∷ i ∷ bs) [] at e = not_faulty _ _ e
checked_derivations (b ∷ i ∷ []) (P ∷ Ps) at e = go (obey (order b) i none P) (obeyed b i none P) (λ Qs h. checked_derivations [] (Qs ++ Ps) (at + 2) h) e
  where
    go : (m : Move) → Obeyed P b i none m → ((Qs : List Sequent) → check [] (Qs ++ Ps) (at + 2) ≡ passes → Derivations (Qs ++ Ps) [])
        → proceed m at (λ Qs. check [] (Qs ++ Ps) (at + 2)) (λ Qs. faulty CUT_SHORT at) ≡ passes → Derivations (P ∷ Ps) (b ∷ i ∷ [])
    go (fault n) o h e = not_faulty _ _ e
    go (waiting Qs) o h e = two_bytes b i [] P Ps Qs o (h Qs e)
    go shut o h e = absurd o
checked_derivations (b ∷ i ∷ j ∷ bs) (P ∷ Ps) at e =
    go (obey (order b) i (some j) P) (obeyed b i (some j) P) (λ Qs h. checked_derivations (j ∷ bs) (Qs ++ Ps) (at + 2) h)
    (λ h. checked_derivations bs Ps (at + 3) h) e
  where
    go : (m : Move) → Obeyed P b i (some j) m → ((Qs : List Sequent) → check (j ∷ bs) (Qs ++ Ps) (at + 2) ≡ passes → Derivations (Qs ++ Ps) (j ∷ bs))
        → (check bs Ps (at + 3) ≡ passes → Derivations Ps bs)
        → proceed m at (λ Qs. check (j ∷ bs) (Qs ++ Ps) (at + 2)) (λ Qs. check bs (Qs ++ Ps) (at + 3)) ≡ passes
        → Derivations (P ∷ Ps) (b ∷ i ∷ j ∷ bs)
    go (fault n) o h k e = not_faulty _ _ e
    go (waiting Qs) o h k e = two_bytes b i (j ∷ bs) P Ps Qs o (h Qs e)
    go shut o h k e = then o (k e) refl

-- ---- as document 01 has it

single : (S : Sequent) (ds : List ℕ) → Derivations (S ∷ []) ds → Derivation S ds
single S ds (then {es = hs} d none_left h) = rw (h, append-nil) d

-- "it passes exactly those byte lists that are one complete derivation of the question by the table"
pub passes_exactly : (S : Sequent) (ds : List ℕ) → (checking S ds ≡ passes) ↔ Derivation S ds
passes_exactly S ds =
    (λ e. single S ds (checked_derivations ds (S ∷ []) 0 e), λ d. ap (λ (l : List ℕ). check l (S ∷ []) 0) (sym (append-nil ds)) ∙ derivation_checks d [] [] 0)

-- "a derivation that passes belongs to a question true in every state", whichever program wrote it
pub passes_true : (S : Sequent) (ds : List ℕ) → checking S ds ≡ passes → Valid S
passes_true S ds e = derivation_true ((passes_exactly S ds).0 e)

-- ---- the faults at 42, each with the command's place

-- "20 if fewer than three bytes are left"
pub pair_cut : (i : ℕ) (P : Sequent) (Ps : List Sequent) (at : ℕ) → check (order_code PAIR ∷ i ∷ []) (P ∷ Ps) at ≡ faulty CUT_SHORT at
pair_cut i P Ps at = refl

-- "then 22 for either place"
pub pair_missing : (i j : ℕ) (bs : List ℕ) (P : Sequent) (Ps : List Sequent) (at : ℕ)
    → (get_elem? P.on_left i ≡ none) ⊎ (get_elem? P.on_right j ≡ none) → check (order_code PAIR ∷ i ∷ j ∷ bs) (P ∷ Ps) at ≡ faulty NO_FORMULA at
pair_missing i j bs P Ps at (inl e) = rw e
pair_missing i j bs P Ps at (inr e) = rw e (go (get_elem? P.on_left i))
  where
    go : (o : Option Formula)
        → proceed (pairs o none) at (λ Qs. check (j ∷ bs) (Qs ++ Ps) (at + 2)) (λ Qs. check bs (Qs ++ Ps) (at + 3)) ≡ faulty NO_FORMULA at
    go none = refl
    go (some x) = refl

-- "then 26"
pub pair_differs : (i j : ℕ) (bs : List ℕ) (P : Sequent) (Ps : List Sequent) (at : ℕ) (x y : Formula) → get_elem? P.on_left i ≡ some x
    → get_elem? P.on_right j ≡ some y → (x ≡ y → Letter x) → check (order_code PAIR ∷ i ∷ j ∷ bs) (P ∷ Ps) at ≡ faulty NOT_EQUAL at
pair_differs i j bs P Ps at x y p q h = rw (p, q, equals_not x y h)

-- ---- the run writes a derivation of each theorem

pub written_all_append : (es fs : List Event) → written_all (es ++ fs) ≡ written_all es ++ written_all fs
written_all_append [] fs = refl
written_all_append (e ∷ es) fs = rw (written_all_append es fs) (sym (append_assoc (written e) (written_all es) (written_all fs)))

abbrev Derives : Sequent → Tree → Type 0
Derives S t = t.end ≡ Theorem → Derivation S (written_all t.events)

follow_derives : (P : Sequent) (Qs : List Sequent) (es : List Event) (e : Kind) (u : Tree) → (e ≡ Theorem → Derivation P (written_all es))
    → (u.end ≡ Theorem → Derivations Qs (written_all u.events))
    → (follow es e u).end ≡ Theorem → Derivations (P ∷ Qs) (written_all (follow es e u).events)
follow_derives P Qs es Theorem u h k q = then (h refl) (k q) (written_all_append es u.events)
follow_derives P Qs es (Refuted σ) u h k q = absurd cc
follow_derives P Qs es Spent u h k q = absurd cc

chain_derives : (S : Sequent) → ((P : Sequent) → Smaller S P → Derives P (tree P)) → (Qs : List Sequent) → Each (Smaller S) Qs
    → (chain tree Qs).end ≡ Theorem → Derivations Qs (written_all (chain tree Qs).events)
chain_derives S h [] l = λ q. none_left
chain_derives S h (P ∷ Qs) l = follow_derives P Qs (tree P).events (tree P).end (chain tree Qs) (h P l.0) (chain_derives S h Qs l.1)

grow_derives : (S : Sequent) (t : Step) → Right_step S t → ((P : Sequent) → Smaller S P → Derives P (tree P)) → Derives S (grow tree S t)
grow_derives S (closed (lettered k)) p h q = by_letter k (record { lefts = p.0; rights = p.1 }) refl
grow_derives S (closed (paired i j)) p h q = by_pair i j p refl
grow_derives S (opened σ) p h q = absurd cc
grow_derives S (reduced s i x) p h q = by_rule s i x p (chain_derives S h (premises s i x S) (smaller s i x S p) q) refl

-- "our derivation of a theorem passes the checker"
pub derivation_passes : (S : Sequent) → (tree S).end ≡ Theorem → checking S (derivation S) ≡ passes
derivation_passes S e = (passes_exactly S (derivation S)).1 (tree_ind Derives grow_derives S e)

-- "2 per reduction and letter closing and 3 per closing by 42": one more than 2 for each of these
pub written_length : (es : List Event) → length (written_all es) ≡ 2 * (reductions es + closings es) + pairings es
written_length [] = refl
written_length (close (lettered k) ∷ es) = omega (arith, written_length es)
written_length (close (paired i j) ∷ es) = omega (arith, written_length es)
written_length (reduce s i k ∷ es) = omega (arith, written_length es)

pub derivation_length : (S : Sequent) → length (derivation S) ≡ 2 * (reductions (tree S).events + closings (tree S).events) + pairings (tree S).events
derivation_length S = written_length (tree S).events

-- so the run's outcome tells it before a byte is written
pub outcome_length : (b : ℕ) (S : Sequent) → (outcome b S).kind ≡ Theorem
    → length (derivation S) ≡ 2 * (b - (outcome b S).unspent + (outcome b S).closings) + (outcome b S).pairings
outcome_length b S e =
    let h = theorem_whole b S e in
    let o = spend_whole b (tree S).events (tree S).end h in
    let r : b - (b - reductions (tree S).events) ≡ reductions (tree S).events = omega arith in
    derivation_length S ∙ sym (ap (λ (q : Outcome). 2 * (b - q.unspent + q.closings) + q.pairings) o
    ∙ ap (λ (n : ℕ). 2 * (n + closings (tree S).events) + pairings (tree S).events) r)

-- ---- the longest: a closing by 42 has a byte more than one by a letter, but a connective is left there that was not reduced

abbrev Short : Sequent → Tree → Type 0
Short S t = length (written_all t.events) ≤ 2 * ((1 + c S) * W S)

one_connective : (xs : List Formula) (i : ℕ) (x : Compound) → get_elem? xs i ≡ some (whole x) → 1 ≤ fold SUM connectives xs
one_connective [] i x h = absurd (none-ne-some (whole x) h)
one_connective (y ∷ xs) zero x h = let e : y ≡ whole x = cc in rw e (omega (arith, counts x.connective x.f x.g))
  where
    counts : (k : Connective) (f g : Formula) → 1 ≤ connectives (compound k f g)
    counts NOT f g = omega arith
    counts (two b) f g = omega arith
one_connective (y ∷ xs) (suc i) x h = omega (arith, one_connective xs i x h)

follow_short : (es : List Event) (e : Kind) (u : Tree) → length (written_all (follow es e u).events) ≤ length (written_all es) + length (written_all u.events)
follow_short es Theorem u = rw (written_all_append es u.events) (omega (arith, length-append (written_all es) (written_all u.events)))
follow_short es (Refuted σ) u = omega arith
follow_short es Spent u = omega arith

chain_short : (S : Sequent) → ((P : Sequent) → Smaller S P → Short P (tree P)) → (Ps : List Sequent) → Each (Smaller S) Ps
    → length (written_all (chain tree Ps).events) ≤ 2 * (c S * fold SUM W Ps)
chain_short S h [] l = omega arith
chain_short S h (P ∷ Ps) l =
    omega (arith, follow_short (tree P).events (tree P).end (chain tree Ps), h P l.0, chain_short S h Ps l.1, mul-add (c S) (W P) (fold SUM W Ps), mul-le-mul_right (W P) l.0.0)

grow_short : (S : Sequent) (t : Step) → Right_step S t → ((P : Sequent) → Smaller S P → Short P (tree P)) → Short S (grow tree S t)
grow_short S (closed (lettered k)) p h = omega (arith, W_pos S, add-mul 1 (c S) (W S))
grow_short S (closed (paired i j)) p h =
    let n : 1 ≤ c S = omega (arith, one_connective S.on_left i p.x p.lefts) in
    omega (arith, W_pos S, add-mul 1 (c S) (W S), one-le-mul n (W_pos S))
grow_short S (opened σ) p h = omega arith
grow_short S (reduced s i x) p h =
    let e = width_premises s i x S p in
    let q = chain_short S h (premises s i x S) (smaller s i x S p) in
    omega (arith, W_pos S, add-mul 1 (c S) (W S), rw (← e) at q)

-- a buffer of so many bytes is never too short, as before
pub derivation_bound : (S : Sequent) → length (derivation S) ≤ 2 * (c S * W S + W S)
derivation_bound S = omega (arith, tree_ind Short grow_short S, add-mul 1 (c S) (W S))
