-- The verdict is right, and the counts are within the width. W is at most 2 to the power c.
-- Assumes nothing.
use mathlib.Core.Path.{◌≡◌, refl, sym, ◌∙◌, fun_ext}
use mathlib.Core.Logic.{◌≢◌, ◌↔◌}
use mathlib.Core.Bool.{Bool, true, false, ◌&&◌, false≢true}
use mathlib.Core.Option.{Option}
use mathlib.Core.List.{List, [], ◌∷◌}
use Prim.Native.Nat.{ℕ, ◌+◌, ◌*◌, ◌^◌, ◌≤◌}
use native.Mathlib.Nat.{pow-suc, le-mul_of_pos_right, mul_comm, mul-add, one-le-mul, mul-le-mul, mul-le-mul_right, le_refl, add-mul}
use native.Mathlib.Omega.{arith}
use borrow.Author.Tests.{not-false}
use lib.Pow.{pow_pos, pow-add}
use Rattle.calculus.specs.declared.Side.{Side}
use Rattle.calculus.specs.declared.Side.TheVariants.{Left, Right}
use Rattle.calculus.specs.declared.Kind.{Kind}
use Rattle.calculus.specs.declared.Kind.TheVariants.{Theorem, Refuted, Spent}
use Rattle.calculus.specs.Fold.{fold, ANY, ALL, SUM, PRODUCT, Each}
use Rattle.calculus.specs.Syntax.{other, Binary, AND, OR, IMPLIES, EQUIV, Formula, letter, neg, join, Sequent, connectives, c}
use Rattle.calculus.specs.Truth.{value, says, truth, Valid, Refutes}
use Rattle.calculus.specs.Table.{premises}
use Rattle.calculus.specs.Tree.{Way, closing, Step, closed, opened, reduced, Event, Tree, follow, chain, grow, tree_by, tree, open_one, is_reduce, is_close, reductions, closings}
use Rattle.calculus.specs.Width.{wide, width, W}
use Rattle.calculus.proofs.Folds.{fold_append, or_false_both, each_false}
use Rattle.calculus.proofs.Sequents.{truth_premises, width_premises, Smaller, smaller}
use Rattle.calculus.proofs.Trees.{Sound, closing_sound, Right_step, closed_true, tree_by_ind}

-- ---- a width is at least 1

wide_pos : (b : Binary) (s : Side) (f g : Side → ℕ) → ((t : Side) → 1 ≤ f t) → ((t : Side) → 1 ≤ g t) → 1 ≤ wide b s f g
wide_pos AND Left f g h k = one-le-mul (h Left) (k Left)
wide_pos AND Right f g h k = omega (arith, h Right)
wide_pos OR Left f g h k = omega (arith, h Left)
wide_pos OR Right f g h k = one-le-mul (h Right) (k Right)
wide_pos IMPLIES Left f g h k = omega (arith, h Right)
wide_pos IMPLIES Right f g h k = one-le-mul (h Left) (k Right)
wide_pos EQUIV Left f g h k = omega (arith, one-le-mul (h Left) (k Left))
wide_pos EQUIV Right f g h k = omega (arith, one-le-mul (h Left) (k Right))

pub width_pos : (s : Side) (x : Formula) → 1 ≤ width s x
width_pos s (letter k) = le_refl 1
width_pos s (neg x) = width_pos (other s) x
width_pos s (join b x y) = wide_pos b s (λ t. width t x) (λ t. width t y) (λ t. width_pos t x) (λ t. width_pos t y)

fold_pos : {X : Type 0} (f : X → ℕ) → ((x : X) → 1 ≤ f x) → (xs : List X) → 1 ≤ fold PRODUCT f xs
fold_pos f h [] = le_refl 1
fold_pos f h (x ∷ xs) = one-le-mul (h x) (fold_pos f h xs)

pub W_pos : (S : Sequent) → 1 ≤ W S
W_pos S = one-le-mul (fold_pos (width Left) (width_pos Left) S.on_left) (fold_pos (width Right) (width_pos Right) S.on_right)

-- ---- what holds of a sequent's tree

-- what an end says of the truth b, in each state
abbrev pub Claim : (ℕ → Bool) → Kind → Type 0
Claim b Theorem = (σ : ℕ) → b σ ≡ true
Claim b (Refuted σ) = b σ ≡ false
Claim b Spent = ⊥

-- a tree of what is true as b says, w wide, with fewer than n connectives
pub record Meets (b : ℕ → Bool) (w n : ℕ) (t : Tree) : Type 0 where
  pub verdict : Claim b t.end
  pub leaves : closings t.events + open_one t.end ≤ w
  pub used : reductions t.events + w ≤ n * w

follow_claim : (a b : ℕ → Bool) (es : List Event) (e : Kind) (u : Tree) → Claim a e → Claim b u.end → Claim (λ σ. a σ && b σ) (follow es e u).end
follow_claim a b es (Refuted σ) u h k = rw h
follow_claim a b es Spent u h k = h
follow_claim a b es Theorem u h k = go u.end k
  where
    go : (e : Kind) → Claim b e → Claim (λ σ. a σ && b σ) e
    go Theorem k = λ σ. rw (h σ, k σ)
    go (Refuted σ) k = rw (h σ) k
    go Spent k = k

follow_leaves : (es : List Event) (e : Kind) (u : Tree) (v w : ℕ) → closings es + open_one e ≤ v → closings u.events + open_one u.end ≤ w
    → closings (follow es e u).events + open_one (follow es e u).end ≤ v + w
follow_leaves es Theorem u v w h k = omega (arith, fold_append SUM is_close es u.events)
follow_leaves es (Refuted σ) u v w h k = omega arith
follow_leaves es Spent u v w h k = omega arith

follow_used : (es : List Event) (e : Kind) (u : Tree) → reductions (follow es e u).events ≤ reductions es + reductions u.events
follow_used es Theorem u = omega (arith, fold_append SUM is_reduce es u.events)
follow_used es (Refuted σ) u = omega arith
follow_used es Spent u = omega arith

abbrev pub Fine : Sequent → Tree → Type 0
Fine S t = Meets (λ σ. truth σ S) (W S) (1 + c S) t

-- the premises of S: all of them true, as wide as they are together
abbrev Fines : Sequent → List Sequent → Tree → Type 0
Fines S Ps t = Meets (λ σ. fold ALL (truth σ) Ps) (fold SUM W Ps) (c S) t

chain_fine : (r : Sequent → Tree) (S : Sequent) → ((P : Sequent) → Smaller S P → Fine P (r P)) → (Ps : List Sequent) → Each (Smaller S) Ps
    → Fines S Ps (chain r Ps)
chain_fine r S h [] l = record { verdict = λ σ. refl; leaves = le_refl 0; used = omega arith }
chain_fine r S h (P ∷ Ps) l =
    let p = h P l.0 in
    let q = chain_fine r S h Ps l.1 in
    record {
      verdict = follow_claim (λ σ. truth σ P) (λ σ. fold ALL (truth σ) Ps) (r P).events (r P).end (chain r Ps) p.verdict q.verdict;
      leaves = follow_leaves (r P).events (r P).end (chain r Ps) (W P) (fold SUM W Ps) p.leaves q.leaves;
      used = omega (arith, follow_used (r P).events (r P).end (chain r Ps), mul-add (c S) (W P) (fold SUM W Ps), mul-le-mul_right (W P) l.0.0, p.used, q.used);
    }

grow_fine : (r : Sequent → Tree) (S : Sequent) (t : Step) → Right_step S t → ((P : Sequent) → Smaller S P → Fine P (r P)) → Fine S (grow r S t)
grow_fine r S (closed w) p h = record { verdict = closed_true S w p; leaves = W_pos S; used = omega (arith, add-mul 1 (c S) (W S)) }
grow_fine r S (opened σ) p h = record { verdict = p; leaves = W_pos S; used = omega (arith, add-mul 1 (c S) (W S)) }
grow_fine r S (reduced s i x) p h =
    let e = width_premises s i x S p in
    let q = chain_fine r S h (premises s i x S) (smaller s i x S p) in
    record {
      verdict = rw (fun_ext (λ (σ : ℕ). truth_premises σ s i x S p)) q.verdict;
      leaves = omega (arith, e, q.leaves);
      used = omega (arith, add-mul 1 (c S) (W S), W_pos S, e, rw (← e) at q.used);
    }

pub tree_by_fine : (t : Sequent → Option Way) → Sound t → (S : Sequent) → Fine S (tree_by t S)
tree_by_fine t f = tree_by_ind t f Fine (grow_fine (tree_by t))

pub tree_fine : (S : Sequent) → Fine S (tree S)
tree_fine = tree_by_fine closing closing_sound

-- ---- as document 01 has it

pub theorem_true : (S : Sequent) → (tree S).end ≡ Theorem → Valid S
theorem_true S e = rw e at (tree_fine S).verdict

pub false_refutes : (S : Sequent) (σ : ℕ) → truth σ S ≡ false → Refutes σ S
false_refutes S σ e =
    let h = or_false_both (fold ANY (says σ Left) S.on_left) (fold ANY (says σ Right) S.on_right) e in
    (each_false (λ x. value σ x ≡ true) (says σ Left) (λ x. not-false (value σ x)) S.on_left h.0, each_false (λ x. value σ x ≡ false) (says σ Right) (λ x q. q) S.on_right h.1)

pub refuted_false : (S : Sequent) (σ : ℕ) → (tree S).end ≡ Refuted σ → Refutes σ S
refuted_false S σ e = false_refutes S σ (rw e at (tree_fine S).verdict)

pub claimed_theorem : (S : Sequent) → Valid S → (e : Kind) → Claim (λ σ. truth σ S) e → e ≡ Theorem
claimed_theorem S v Theorem p = refl
claimed_theorem S v (Refuted σ) p = absurd (false≢true (sym p ∙ v σ))
claimed_theorem S v Spent p = absurd p

-- a theorem exactly if true in every state
pub theorem_exactly : (S : Sequent) → ((tree S).end ≡ Theorem) ↔ Valid S
theorem_exactly S = (theorem_true S, λ v. claimed_theorem S v (tree S).end (tree_fine S).verdict)

pub never_spent : (S : Sequent) → (tree S).end ≢ Spent
never_spent S e = rw e at (tree_fine S).verdict

pub reductions_bound : (S : Sequent) → reductions (tree S).events ≤ c S * W S
reductions_bound S = omega (arith, (tree_fine S).used, add-mul 1 (c S) (W S))

pub closings_bound : (S : Sequent) → closings (tree S).events + open_one (tree S).end ≤ W S
closings_bound S = (tree_fine S).leaves

-- ---- the width is at most 2 to the power of the connectives

wide_le : (b : Binary) (s : Side) (f g : Side → ℕ) (a d : ℕ) → ((t : Side) → f t ≤ a) → ((t : Side) → g t ≤ d) → 1 ≤ a → 1 ≤ d → wide b s f g ≤ a * d * 2
wide_le AND Left f g a d h k p q = omega (arith, mul-le-mul (h Left) (k Left))
wide_le AND Right f g a d h k p q = omega (arith, h Right, k Right, le-mul_of_pos_right a q, mul-le-mul_right d p)
wide_le OR Left f g a d h k p q = omega (arith, h Left, k Left, le-mul_of_pos_right a q, mul-le-mul_right d p)
wide_le OR Right f g a d h k p q = omega (arith, mul-le-mul (h Right) (k Right))
wide_le IMPLIES Left f g a d h k p q = omega (arith, h Right, k Left, le-mul_of_pos_right a q, mul-le-mul_right d p)
wide_le IMPLIES Right f g a d h k p q = omega (arith, mul-le-mul (h Left) (k Right))
wide_le EQUIV Left f g a d h k p q = omega (arith, mul-le-mul (h Left) (k Left), mul-le-mul (h Right) (k Right))
wide_le EQUIV Right f g a d h k p q = omega (arith, mul-le-mul (h Left) (k Right), mul-le-mul (h Right) (k Left), mul_comm (g Left) (f Right))

pub width_le : (s : Side) (x : Formula) → width s x ≤ 2 ^ connectives x
width_le s (letter k) = le_refl 1
width_le s (neg x) = omega (arith, width_le (other s) x, pow-suc 2 (connectives x))
width_le s (join b x y) =
    rw (pow-suc, pow-add) (wide_le b s (λ t. width t x) (λ t. width t y) (2 ^ connectives x) (2 ^ connectives y) (λ t. width_le t x) (λ t. width_le t y) (pow_pos (connectives x)) (pow_pos (connectives y)))

pub fold_pow : {X : Type 0} (f g : X → ℕ) → ((x : X) → f x ≤ 2 ^ g x) → (xs : List X) → fold PRODUCT f xs ≤ 2 ^ fold SUM g xs
fold_pow f g h [] = le_refl 1
fold_pow f g h (x ∷ xs) = rw pow-add (mul-le-mul (h x) (fold_pow f g h xs))

pub W_bound : (S : Sequent) → W S ≤ 2 ^ c S
W_bound S = rw pow-add (mul-le-mul (fold_pow (width Left) connectives (width_le Left) S.on_left) (fold_pow (width Right) connectives (width_le Right) S.on_right))
