-- A loop over the premises of a rule: what is left, and the stores so far.
-- Assumes nothing.
use Rattle.std.proofs.Common.{◌≡◌, sym, ap, ◌∙◌, List, [], ◌∷◌, map, ℕ, ◌+◌, ◌*◌, ◌≤◌, ◌<◌, add-one, arith, length, drop, get_or, drop_of_length-le, drop-cons}
use Rattle.calculus.specs.Fold.{fold, SUM}
use Rattle.calculus.specs.Limits.{ROOM}
use Rattle.calculus.specs.Syntax.{Sequent, size}
use Rattle.sequent.specs.Rule.{Placing}
use Rattle.sequent.specs.declared.Which.TheVariants.{Neither}

-- no part placed: what a loop reads past the end of a rule
abbrev pub nowhere : Placing
nowhere = record { left = Neither; right = Neither }

-- after j premises the next placing and the rest are left
pub next : (r : List Placing) (j : ℕ) → j < length r → drop j r ≡ get_or r j nowhere ∷ drop (j + 1) r
next r j h = drop-cons r j nowhere h ∙ ap (λ (n : ℕ). get_or r j nowhere ∷ drop n r) (sym (add-one j))

-- after the last none
pub next_ends : (r : List Placing) (j : ℕ) → length r ≤ j → drop j r ≡ []
next_ends r j h = drop_of_length-le r {i = j} h

-- after j premises n places are stored
pub record Summed (F : Placing → Sequent) (r : List Placing) (j n : ℕ) : Type 0 where
  pub stores : n + fold SUM size (map F (drop j r)) ≡ fold SUM size (map F r)
  pub small : n ≤ ROOM * j

module _ (F : Placing → Sequent) (r : List Placing) where
  pub sum_starts : Summed F r 0 0
  sum_starts = record { stores = omega arith; small = omega arith }

  module _ (j n : ℕ) (t : Summed F r j n) where
    pub sum_goes : j < length r → (m : ℕ) → m ≡ size (F (get_or r j nowhere)) → size (F (get_or r j nowhere)) ≤ ROOM → Summed F r (j + 1) (n + m)
    sum_goes h m e k =
        record {
          stores = omega (arith, t.stores, e, ap (λ (ps : List Placing). fold SUM size (map F ps)) (next r j h));
          small = omega (arith, t.small, e);
        }

    pub sum_ends : length r ≤ j → n ≡ fold SUM size (map F r)
    sum_ends h = omega (arith, t.stores, ap (λ (ps : List Placing). fold SUM size (map F ps)) (next_ends r j h))
