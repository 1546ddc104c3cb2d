-- What the code's tests of masks say of a clause.
-- Assumes nothing.
use mathlib.Core.Path.{◌≡◌, refl, sym, ap, ap₂, ◌∙◌}
use mathlib.Core.Bool.{Bool, true, false, not, ◌&&◌, ◌||◌, or_comm, false≢true, true≢false}
use mathlib.Core.List.{List, [], ◌∷◌}
use Prim.Native.Nat.{ℕ}
use borrow.Author.Tests.{eqb-true, eq-eqb, ne_eqb}
use lib.Bits.{bit_and, bit_or}
use lib.Dec.{eqb}
use Rattle.calculus.specs.Fold.{fold, ANY, ALL, Each}
use Rattle.calculus.specs.Truth.{bit}
use Rattle.calculus.specs.Tree.{among, state}
use Rattle.calculus.specs.Clauses.{Clause, met, fails, light_all}
use Rattle.calculus.proofs.Folds.{and_both, or_elim, or_right, not_so, each_false}
use Rattle.calculus.proofs.Lists.{among_each}
use Rattle.calculus.proofs.Bits.{bit_and_lem, bit_or_lem}
use Rattle.calculus.proofs.Trees.{bit_zero, bit_state}
use Rattle.calculus.proofs.States.{bit_ext}
use Rattle.calculus.proofs.Rounds.{bit_light_all, one_of}
use Rattle.clauses.specs.declared.Masks.{Masks}
use Rattle.clauses.specs.Masks.{masks_of}

-- ---- the letters under NOT

module _ (σ : ℕ) where
  all_lit : (ks : List ℕ) → ((k : ℕ) → among k ks ≡ true → bit k σ ≡ true) → fold ALL (λ k. bit k σ) ks ≡ true
  all_lit [] h = refl
  all_lit (k ∷ ks) h = ap₂ ◌&&◌ (h k (rw (eq-eqb k k refl))) (all_lit ks (λ j e. h j (or_right (eqb j k) (among j ks) e)))

  each_lit : (ks : List ℕ) → fold ALL (λ k. bit k σ) ks ≡ true → (k : ℕ) → among k ks ≡ true → bit k σ ≡ true
  each_lit [] h k e = absurd (false≢true e)
  each_lit (j ∷ ks) h k e =
      let a = and_both (bit j σ) (fold ALL (λ i. bit i σ) ks) h in
      or_elim (eqb k j) (among k ks) e (λ i. let z : k ≡ j = eqb-true k j i in rw z a.0) (λ i. each_lit ks a.1 k i)

  met_mask : (ks : List ℕ) → bit_and (state ks) σ ≡ state ks → fold ALL (λ k. bit k σ) ks ≡ true
  met_mask ks e =
      all_lit ks (λ k h. (and_both (bit k (state ks)) (bit k σ) (sym (bit_and_lem k (state ks) σ) ∙ ap (bit k) e ∙ bit_state k ks ∙ h)).1)

  unmet_mask : (ks : List ℕ) → (bit_and (state ks) σ ≡ state ks → ⊥) → fold ALL (λ k. bit k σ) ks ≡ false
  unmet_mask ks n =
      not_so (fold ALL (λ k. bit k σ) ks)
      (λ h. n (bit_ext (bit_and (state ks) σ) (state ks) (λ k. bit_and_lem k (state ks) σ ∙ go (bit k (state ks)) (bit k σ) (λ e. each_lit ks h k (sym (bit_state k ks) ∙ e)))))
    where
      go : (a b : Bool) → (a ≡ true → b ≡ true) → (a && b) ≡ a
      go true b f = f refl
      go false b f = refl

  -- ---- the letters without NOT

  none_lit : (ks : List ℕ) → eqb (bit_and (state ks) σ) 0 ≡ not (fold ANY (λ k. bit k σ) ks)
  none_lit ks = go (fold ANY (λ k. bit k σ) ks) refl
    where
      and_bit : (k : ℕ) → bit k (bit_and (state ks) σ) ≡ (among k ks && bit k σ)
      and_bit k = bit_and_lem k (state ks) σ ∙ ap (λ (b : Bool). b && bit k σ) (bit_state k ks)

      dark : Each (λ k. bit k σ ≡ false) ks → (k : ℕ) (b : Bool) → among k ks ≡ b → (b && bit k σ) ≡ false
      dark h k true m = among_each (λ j. bit j σ ≡ false) ks k h m
      dark h k false m = refl

      go : (b : Bool) → fold ANY (λ k. bit k σ) ks ≡ b → eqb (bit_and (state ks) σ) 0 ≡ not b
      go true e =
          let o = one_of (λ k. bit k σ) ks e in
          let k = o.which in
          ne_eqb (bit_and (state ks) σ) 0 (λ z. true≢false (sym (and_bit k ∙ ap₂ ◌&&◌ o.stands o.passes) ∙ ap (bit k) z ∙ bit_zero k))
      go false e =
          let h = each_false (λ k. bit k σ ≡ false) (λ k. bit k σ) (λ k d. d) ks e in
          eq-eqb (bit_and (state ks) σ) 0 (bit_ext (bit_and (state ks) σ) 0 (λ k. and_bit k ∙ dark h k (among k ks) refl ∙ sym (bit_zero k)))

pub light_mask : (ks : List ℕ) (σ : ℕ) → bit_or σ (state ks) ≡ light_all ks σ
light_mask ks σ =
    bit_ext (bit_or σ (state ks)) (light_all ks σ) (λ k. bit_or_lem k σ (state ks) ∙ ap (λ (b : Bool). bit k σ || b) (bit_state k ks) ∙ or_comm (bit k σ) (among k ks) ∙ sym (bit_light_all k ks σ))

-- ---- a clause's masks

module _ (m : Masks) (σ : ℕ) (c : Clause) (e : m ≡ masks_of c) where
  pub met_test : eqb (bit_and m.negative σ) m.negative ≡ met σ c
  met_test = rw e (go (eqb (bit_and (state c.negative) σ) (state c.negative)) refl)
    where
      go : (b : Bool) → eqb (bit_and (state c.negative) σ) (state c.negative) ≡ b → b ≡ met σ c
      go true f = sym (met_mask σ c.negative (eqb-true (bit_and (state c.negative) σ) (state c.negative) f))
      go false f = sym (unmet_mask σ c.negative (λ h. true≢false (sym (eq-eqb (bit_and (state c.negative) σ) (state c.negative) h) ∙ f)))

  pub fails_test : met σ c ≡ true → eqb (bit_and m.positive σ) 0 ≡ fails σ c
  fails_test h = rw (e, h) (none_lit σ c.positive)
