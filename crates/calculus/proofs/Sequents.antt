-- A sequent's measure under a reduction, in any commutative monoid; truth, width, connectives and formulas are its instances.
-- Assumes nothing.
use mathlib.Core.Path.{◌≡◌, refl, sym, ap, ◌∙◌, fun_ext}
use mathlib.Core.Option.{some, none-ne-some}
use mathlib.Core.List.{List, [], ◌∷◌, append-nil}
use Prim.Native.Nat.{ℕ, zero, suc, ◌+◌, ◌≤◌}
use native.Mathlib.Nat.{add-zero}
use native.Mathlib.Omega.{arith}
use lib.ListN.{get_elem?}
use Rattle.calculus.specs.declared.Side.{Side}
use Rattle.calculus.specs.declared.Side.TheVariants.{Left, Right}
use Rattle.calculus.specs.Fold.{Monoid, fold, ALL, ANY, SUM, PRODUCT, Each}
use Rattle.calculus.specs.Syntax.{Formula, Compound, whole, Seq, Sequent, over, connectives, c, size}
use Rattle.calculus.specs.Truth.{says, truth}
use Rattle.calculus.specs.Table.{Put, L, R, on, splice, premise, reduct, Holds, premises}
use Rattle.calculus.specs.Width.{width, W}
use Rattle.calculus.proofs.Folds.{left_comm, unit_right, fold_append, fold_map, Distributes, times_fold, ALL_ANY, SUM_PRODUCT, fold_add, each_map}
use Rattle.calculus.proofs.Rules.{at, truth_rule, width_rule, weight, parts, parts_rule}

-- the placements, side by side
fold_on : {A X : Type 0} (M : Monoid A) (f : Side → X → A) (ps : List (Put X))
    → M.op (fold M (f Left) (on Left ps)) (fold M (f Right) (on Right ps)) ≡ fold M (at f) ps
fold_on M f [] = M.unit_left _
fold_on M f (L x ∷ ps) = M.assoc _ _ _ ∙ rw (fold_on M f ps)
fold_on M f (R x ∷ ps) = left_comm M _ _ _ ∙ rw (fold_on M f ps)

-- a premise measures what is left of the sequent and the placements
pub over_premise : {A X : Type 0} (M : Monoid A) (f : Side → X → A) (s : Side) (i : ℕ) (S : Seq X) (ps : List (Put X))
    → over M f (premise s i S ps) ≡ M.op (over M f (premise s i S [])) (fold M (at f) ps)
over_premise M f Left i S ps = simp (over, premise, splice, fold_append, ← fold_on M f ps, append-nil, M.unit_left, M.assoc, M.comm, left_comm M)
over_premise M f Right i S ps = simp (over, premise, splice, fold_append, ← fold_on M f ps, append-nil, M.unit_left, M.assoc, M.comm, left_comm M)

abbrev pub put : {X : Type 0} → Side → X → Put X
put Left x = L x
put Right x = R x

pub at_put : {A X : Type 0} (f : Side → X → A) (s : Side) (x : X) → at f (put s x) ≡ f s x
at_put f Left x = refl
at_put f Right x = refl

-- where the monoid distributes over another, a sequent's measure is the sum of its premises'
over_premises : {A : Type 0} (P M : Monoid A) → Distributes P M → (f : Side → Formula → A) (s : Side) (i : ℕ) (x : Compound) (S : Sequent)
    → premise s i S (put s (whole x) ∷ []) ≡ S → f s (whole x) ≡ fold P (fold M (at f)) (reduct s x)
    → over M f S ≡ fold P (over M f) (premises s i x S)
over_premises {A} P M D f s i x S stands rule =
    ap (over M f) (sym stands) ∙ over_premise M f s i S (put s (whole x) ∷ [])
    ∙ ap (M.op (over M f (premise s i S []))) (unit_right M _ ∙ at_put f s (whole x) ∙ rule)
    ∙ times_fold P M D (over M f (premise s i S [])) (fold M (at f)) (reduct s x)
    ∙ ap (λ (g : List (Put Formula) → A). fold P g (reduct s x)) (fun_ext (λ ps. sym (over_premise M f s i S ps)))
    ∙ sym (fold_map P (over M f) (premise s i S) (reduct s x))

-- ---- where x stands on side s at place i, to put it there changes nothing

splice_here : {X : Type 0} (xs : List X) (i : ℕ) (w : X) → get_elem? xs i ≡ some w → splice i (w ∷ []) xs ≡ xs
splice_here [] i w e = absurd (none-ne-some w e)
splice_here (x ∷ xs) zero w e = cc
splice_here {X} (x ∷ xs) (suc i) w e = ap (λ (l : List X). x ∷ l) (splice_here xs i w e)

pub put_back : (s : Side) (i : ℕ) (x : Compound) (S : Sequent) → Holds S s i x → premise s i S (put s (whole x) ∷ []) ≡ S
put_back Left i x S e = λ j. record { on_left = splice_here S.on_left i (whole x) e j; on_right = append-nil S.on_right j }
put_back Right i x S e = λ j. record { on_left = append-nil S.on_left j; on_right = splice_here S.on_right i (whole x) e j }

-- ---- a sequent is as true as all its premises, and as wide as they are together

pub truth_premises : (σ : ℕ) (s : Side) (i : ℕ) (x : Compound) (S : Sequent) → Holds S s i x → truth σ S ≡ fold ALL (truth σ) (premises s i x S)
truth_premises σ s i x S h = over_premises ALL ANY ALL_ANY (says σ) s i x S (put_back s i x S h) (truth_rule σ s x.connective x.f x.g)

pub width_premises : (s : Side) (i : ℕ) (x : Compound) (S : Sequent) → Holds S s i x → W S ≡ fold SUM W (premises s i x S)
width_premises s i x S h = over_premises SUM PRODUCT SUM_PRODUCT width s i x S (put_back s i x S h) (width_rule s x.connective x.f x.g)

-- ---- each premise is smaller

-- formulas and connectives together
weight_size : (S : Sequent) → over SUM weight S ≡ size S + c S
weight_size S = omega (arith, fold_add (λ x. 1) connectives S.on_left, fold_add (λ x. 1) connectives S.on_right)

-- a connective less, and no more formulas and connectives together
abbrev pub Smaller : Sequent → Sequent → Type 0
Smaller S P = (1 + c P ≤ c S) × (size P + c P ≤ size S + c S)

pub smaller : (s : Side) (i : ℕ) (x : Compound) (S : Sequent) → Holds S s i x → Each (Smaller S) (premises s i x S)
smaller s i x S h = each_map (parts s (whole x)) (Smaller S) (premise s i S) one (reduct s x) (parts_rule s x.connective x.f x.g)
  where
    all : (f : Side → Formula → ℕ) → over SUM f S ≡ over SUM f (premise s i S []) + f s (whole x)
    all f = ap (over SUM f) (sym (put_back s i x S h)) ∙ over_premise SUM f s i S (put s (whole x) ∷ []) ∙ simp (at_put, add-zero)

    one : (ps : List (Put Formula)) → parts s (whole x) ps → Smaller S (premise s i S ps)
    one ps k =
        omega (arith, over_premise SUM (λ t. connectives) s i S ps, all (λ t. connectives), over_premise SUM weight s i S ps, all weight, weight_size S, weight_size (premise s i S ps))
