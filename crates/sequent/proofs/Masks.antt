-- The letters of a side as bits: what `|` makes of them.
-- Assumes nothing.
use Rattle.std.proofs.Common.{◌≡◌, refl, sym, ap, ◌∙◌, Bool, true, false, ◌||◌, List, [], ◌∷◌, ℕ, zero, suc, ◌^◌, bit_or}
use Rattle.std.proofs.Math.Option.{some, none-ne-some}
use Rattle.std.specs.Int.Bits.{or_zero_l, or_comm}
use Rattle.std.proofs.Math.ListN.{get_elem?}
use Rattle.calculus.specs.Fold.{Monoid, fold}
use Rattle.calculus.specs.Syntax.{Formula, letter, neg, join}
use Rattle.calculus.specs.Table.{splice}
use Rattle.calculus.specs.Tree.{letters, state}
use Rattle.calculus.specs.Truth.{bit}
use Rattle.calculus.proofs.Bits.{bit_or_lem}
use Rattle.calculus.proofs.Folds.{fold_append}
use Rattle.calculus.proofs.States.{bit_ext}
use Rattle.calculus.proofs.Trees.{light_or}

pub or_assoc : (a b c : ℕ) → bit_or (bit_or a b) c ≡ bit_or a (bit_or b c)
or_assoc a b c =
    bit_ext (bit_or (bit_or a b) c) (bit_or a (bit_or b c))
    (λ j. bit_or_lem j (bit_or a b) c ∙ rw (bit_or_lem j a b, bit_or_lem j a (bit_or b c), bit_or_lem j b c) (either (bit j a) (bit j b) (bit j c)))
  where
    either : (x y z : Bool) → ((x || y) || z) ≡ (x || (y || z))
    either true y z = refl
    either false y z = refl

abbrev pub OR : Monoid ℕ
OR = record { op = bit_or; unit = 0; unit_left = or_zero_l; assoc = or_assoc; comm = or_comm }

-- a letter's bit
abbrev pub letter_bit : Formula → ℕ
letter_bit (letter k) = 2 ^ k
letter_bit (neg x) = 0
letter_bit (join b x y) = 0

-- A side's letters, as document 01's state has them, are the fold of its formulas' bits.
pub state_fold : (xs : List Formula) → state (letters xs) ≡ fold OR letter_bit xs
state_fold [] = refl
state_fold (letter k ∷ xs) = sym (light_or k (state (letters xs))) ∙ ap (bit_or (2 ^ k)) (state_fold xs)
state_fold (neg x ∷ xs) = state_fold xs ∙ sym (or_zero_l _)
state_fold (join b x y ∷ xs) = state_fold xs ∙ sym (or_zero_l _)

-- A formula that measures nothing makes way for others, and the fold gains what they measure.
pub fold_splice : {A X : Type 0} (M : Monoid A) (f : X → A) (xs : List X) (i : ℕ) (w : X) (new : List X) → get_elem? xs i ≡ some w → f w ≡ M.unit
    → fold M f (splice i new xs) ≡ M.op (fold M f xs) (fold M f new)
fold_splice M f [] i w new e u = absurd (none-ne-some w e)
fold_splice {A} M f (x ∷ xs) zero w new e u =
    let d : f x ≡ M.unit = ap f (the x w e) ∙ u in
    fold_append M f new xs ∙ M.comm _ _ ∙ ap (λ (a : A). M.op a (fold M f new)) (sym (ap (λ (a : A). M.op a (fold M f xs)) d ∙ M.unit_left _))
  where
    the : {X : Type 0} (x w : X) → some x ≡ some w → x ≡ w
    the x w e = cc
fold_splice M f (x ∷ xs) (suc i) w new e u = rw (fold_splice M f xs i w new e u) (sym (M.assoc _ _ _))
