-- The set of a side: it holds the side's compounds, and where two do not meet, no compound stands on both sides.
-- Assumes nothing.
use Rattle.std.proofs.Common.{◌≡◌, refl, sym, subst, ◌∙◌, true, List, [], ◌∷◌, ℕ, ◌%◌, ◌≤◌, bit_and, bit_or, eqb, le-ltb, eq-eqb}
use Rattle.std.proofs.Math.Bool.{false≢true}
use Rattle.calculus.specs.declared.Side.{Side}
use Rattle.calculus.specs.Fold.{Each}
use Rattle.calculus.specs.Limits.{LETTERS}
use Rattle.calculus.specs.Syntax.{Seq, on_side}
use Rattle.calculus.specs.Table.{premise}
use Rattle.calculus.specs.Truth.{bit}
use Rattle.calculus.proofs.Folds.{or_left, or_right, each}
use Rattle.calculus.proofs.Bits.{bit_and_lem, bit_or_lem}
use Rattle.calculus.proofs.Trees.{bit_light, bit_zero, light_or}
use Rattle.sequent.specs.declared.Running.{Running}
use Rattle.sequent.specs.Rule.{Placing, parts_on, placed}
use Rattle.sequent.specs.View.{view, set_of, compound_bit, compounds_of, Member, Covered}
use Rattle.sequent.proofs.Lists.{each_premise}

pub member_left : (a b x : ℕ) → Member a x → Member (bit_or a b) x
member_left a b x h k = bit_or_lem (x % 64) a b ∙ or_left (bit (x % 64) a) (bit (x % 64) b) (h k)

pub member_right : (a b x : ℕ) → Member b x → Member (bit_or a b) x
member_right a b x h k = bit_or_lem (x % 64) a b ∙ or_right (bit (x % 64) a) (bit (x % 64) b) (h k)

pub member_self : (a x : ℕ) → Member (bit_or (compound_bit x) a) x
member_self a x k =
    rw (le-ltb x LETTERS k, light_or (x % 64) a) (bit_light (x % 64) (x % 64) a ∙ or_left (eqb (x % 64) (x % 64)) (bit (x % 64) a) (eq-eqb (x % 64) (x % 64) refl))

-- names are in the set of their compounds
pub members : (xs : List ℕ) → Each (Member (compounds_of xs)) xs
members [] = tt
members (x ∷ xs) =
    (member_self (compounds_of xs) x, each (Member (compounds_of xs)) (Member (bit_or (compound_bit x) (compounds_of xs))) (member_right (compound_bit x) (compounds_of xs)) xs (members xs))

-- a compound in both
pub meeting : (a b x : ℕ) → LETTERS ≤ x → Member a x → Member b x → bit_and a b ≡ 0 → ⊥
meeting a b x k h l z = false≢true (sym (bit_zero (x % 64)) ∙ subst (λ (n : ℕ). bit (x % 64) n ≡ true) z (bit_and_lem (x % 64) a b ∙ rw (h k, l k)))

pub covered_premise : (s r : Running) (old new : List ℕ) (t : Side) (i : ℕ) (p : Placing) (f g : ℕ) → Covered s old
    → view r new ≡ premise t i (view s old) (placed p f g) → ((u : Side) → set_of u r ≡ bit_or (set_of u s) (compounds_of (parts_on u p f g))) → Covered r new
covered_premise s r old new t i p f g covered e sets u =
    let a = set_of u s in
    let b = compounds_of (parts_on u p f g) in
    let q = each_premise (Member (bit_or a b)) t u i (view s old) p f g (each (Member b) (Member (bit_or a b)) (member_right a b) (parts_on u p f g) (members (parts_on u p f g))) (each (Member a) (Member (bit_or a b)) (member_left a b) (on_side u (view s old)) (covered u)) in
    subst (λ (n : ℕ). Each (Member n) (on_side u (view r new))) (sym (sets u)) (subst (λ (N : Seq ℕ). Each (Member (bit_or a b)) (on_side u N)) (sym e) q)
