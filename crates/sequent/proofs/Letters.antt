-- The letters and the compounds of a side as bits.
-- Assumes nothing.
use Rattle.std.proofs.Common.{◌≡◌, refl, sym, ap, ◌∙◌, List, [], ◌∷◌, ◌++◌, ℕ, zero, suc, ◌≤◌, ◌<◌, arith, bit_or, length, get_or, le-ltb}
use Rattle.std.proofs.Math.Option.{some}
use Rattle.std.specs.Int.Bits.{or_zero_r}
use Rattle.std.proofs.Math.ListN.{get_elem?}
use Rattle.calculus.specs.declared.Side.{Side}
use Rattle.calculus.specs.declared.Side.TheVariants.{Left, Right}
use Rattle.calculus.specs.Fold.{fold}
use Rattle.calculus.specs.Limits.{LETTERS}
use Rattle.calculus.specs.Syntax.{Seq, on_side}
use Rattle.calculus.specs.Table.{splice, premise}
use Rattle.calculus.proofs.Folds.{fold_append}
use Rattle.sequent.specs.Rule.{Placing, parts_on, placed}
use Rattle.sequent.proofs.Masks.{or_assoc, OR, fold_splice}
use Rattle.sequent.proofs.Lists.{on_left, on_right}
use Rattle.sequent.specs.declared.Half.{Half}
use Rattle.sequent.specs.declared.Running.{Running}
use Rattle.sequent.specs.View.{grown, joined, view, mask_of, bits_by, bit_of, letters_of, compound_bit, Masked}

pub bits_fold : (β : ℕ → ℕ) (xs : List ℕ) → bits_by β xs ≡ fold OR β xs
bits_fold β [] = refl
bits_fold β (x ∷ xs) = ap (bit_or (β x)) (bits_fold β xs)

pub bits_append : (β : ℕ → ℕ) (xs ys : List ℕ) → bits_by β (xs ++ ys) ≡ bit_or (bits_by β xs) (bits_by β ys)
bits_append β xs ys = bits_fold β (xs ++ ys) ∙ fold_append OR β xs ys ∙ rw (bits_fold β xs, bits_fold β ys)

-- a compound makes way
at_place : (xs : List ℕ) (i : ℕ) → i < length xs → get_elem? xs i ≡ some (get_or xs i 0)
at_place [] i h = absurd (omega arith)
at_place (x ∷ xs) zero h = refl
at_place (x ∷ xs) (suc i) h = at_place xs i (omega arith)

letters_splice : (xs new : List ℕ) (i : ℕ) → i < length xs → LETTERS ≤ get_or xs i 0 → letters_of (splice i new xs) ≡ bit_or (letters_of xs) (letters_of new)
letters_splice xs new i h k =
    bits_fold bit_of (splice i new xs) ∙ fold_splice OR bit_of xs i (get_or xs i 0) new (at_place xs i h) (rw (le-ltb (get_or xs i 0) LETTERS k)) ∙ rw (bits_fold bit_of xs, bits_fold bit_of new)

-- ---- parts join

pub joined_one : (x : ℕ) (h : Half) → grown x h ≡ joined (x ∷ []) h
joined_one x h = λ i. record {
  count = h.count;
  mask = ap (bit_or h.mask) (sym (or_zero_r (bit_of x))) i;
  set = ap (bit_or h.set) (sym (or_zero_r (compound_bit x))) i;
}

pub joined_none : (h : Half) → h ≡ joined [] h
joined_none h = λ i. record { count = h.count; mask = sym (or_zero_r h.mask) i; set = sym (or_zero_r h.set) i }

pub joined_both : (xs ys : List ℕ) (h : Half) → joined ys (joined xs h) ≡ joined (xs ++ ys) h
joined_both xs ys h = λ i. record { count = h.count; mask = both bit_of h.mask i; set = both compound_bit h.set i }
  where
    both : (β : ℕ → ℕ) (a : ℕ) → bit_or (bit_or a (bits_by β xs)) (bits_by β ys) ≡ bit_or a (bits_by β (xs ++ ys))
    both β a = or_assoc a (bits_by β xs) (bits_by β ys) ∙ ap (bit_or a) (sym (bits_append β xs ys))

-- a premise's masks are its letters
premise_letters : (t : Side) (i : ℕ) (S : Seq ℕ) (p : Placing) (f g : ℕ) → i < length (on_side t S) → LETTERS ≤ get_or (on_side t S) i 0
    → (u : Side) → letters_of (on_side u (premise t i S (placed p f g))) ≡ bit_or (letters_of (on_side u S)) (letters_of (parts_on u p f g))
premise_letters Left i S p f g h k Left = rw (on_left (parts_on Left p f g) (parts_on Right p f g)) (letters_splice S.on_left (parts_on Left p f g) i h k)
premise_letters Left i S p f g h k Right = rw (on_right (parts_on Left p f g) (parts_on Right p f g)) (bits_append bit_of S.on_right (parts_on Right p f g))
premise_letters Right i S p f g h k Left = rw (on_left (parts_on Left p f g) (parts_on Right p f g)) (bits_append bit_of S.on_left (parts_on Left p f g))
premise_letters Right i S p f g h k Right = rw (on_right (parts_on Left p f g) (parts_on Right p f g)) (letters_splice S.on_right (parts_on Right p f g) i h k)

pub masked_premise : (s r : Running) (old new : List ℕ) (t : Side) (i : ℕ) (p : Placing) (f g : ℕ) → Masked s old
    → i < length (on_side t (view s old)) → LETTERS ≤ get_or (on_side t (view s old)) i 0
    → view r new ≡ premise t i (view s old) (placed p f g) → ((u : Side) → mask_of u r ≡ bit_or (mask_of u s) (letters_of (parts_on u p f g))) → Masked r new
masked_premise s r old new t i p f g masked h k e m u =
    m u ∙ ap (λ (a : ℕ). bit_or a (letters_of (parts_on u p f g))) (masked u) ∙ sym (premise_letters t i (view s old) p f g h k u) ∙ ap (λ (S : Seq ℕ). letters_of (on_side u S)) (sym e)
