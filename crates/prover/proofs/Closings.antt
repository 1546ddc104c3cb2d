-- The closing test on the letters' bits: `&` of the two sides, and its lowest bit.
-- Assumes nothing.
use mathlib.Core.Path.{◌≡◌, refl, sym, ap, ◌∙◌}
use mathlib.Core.Bool.{true, false, ◌&&◌, false≢true}
use mathlib.Core.Logic.{◌⊎◌, inl, inr}
use mathlib.Core.Option.{Option, none, some}
use mathlib.Core.List.{List}
use Prim.Native.Nat.{ℕ, zero, suc, ◌/◌, ◌%◌, ◌^◌, ◌≤◌, ◌<◌}
use native.Mathlib.Nat.{pow-suc}
use native.Mathlib.Omega.{arith}
use lib.Bits.{bit_and, and_lt}
use lib.Count.{count_trailing_zeros, under}
use Rattle.calculus.specs.Limits.{LETTERS}
use Rattle.calculus.specs.Truth.{bit}
use Rattle.calculus.specs.Tree.{among, common, state}
use Rattle.calculus.proofs.Folds.{and_both, not_so}
use Rattle.calculus.proofs.Bits.{bit_and_lem}
use Rattle.calculus.proofs.Trees.{bit_state, bit_zero, Shared, shared, lowest}

-- ---- bits

low : (x : ℕ) → x < 2 → (x ≡ 0) ⊎ (x ≡ 1)
low zero h = inl refl
low (suc zero) h = inr refl
low (suc (suc x)) h = absurd (omega arith)

no_bits : (n a : ℕ) → a < 2 ^ n → ((k : ℕ) → bit k a ≡ false) → a ≡ 0
no_bits zero a h f = omega arith
no_bits (suc n) a h f =
    let z : a / 2 ≡ 0 = no_bits n (a / 2) (omega (arith, pow-suc 2 n)) (λ k. f (suc k)) in
    go (low (a % 2) (omega arith)) z
  where
    go : (a % 2 ≡ 0) ⊎ (a % 2 ≡ 1) → a / 2 ≡ 0 → a ≡ 0
    go (inl e) z = omega arith
    go (inr e) z = absurd (false≢true (sym (f 0) ∙ rw e))

pub bit_below : (n j a : ℕ) → a < 2 ^ n → bit j a ≡ true → j < n
bit_below zero j a h e = let z : a ≡ 0 = omega arith in absurd (false≢true (sym (bit_zero j) ∙ rw z at e))
bit_below (suc n) zero a h e = omega arith
bit_below (suc n) (suc j) a h e = omega (arith, bit_below n j (a / 2) (omega (arith, pow-suc 2 n)) e)

-- ---- the lowest bit

trailing_low : (n a j : ℕ) → j < n → bit j a ≡ true → count_trailing_zeros n a ≤ j
unfolding count_trailing_zeros
trailing_low zero a j h e = omega arith
trailing_low (suc n) a j h e = go (low (a % 2) (omega arith)) j h e (λ i k d. trailing_low n (a / 2) i k d)
  where
    go : (a % 2 ≡ 0) ⊎ (a % 2 ≡ 1) → (j : ℕ) → j < suc n → bit j a ≡ true → ((i : ℕ) → i < n → bit i (a / 2) ≡ true → count_trailing_zeros n (a / 2) ≤ i) → under (a % 2) (count_trailing_zeros n (a / 2)) ≤ j
    go (inl z) zero h e ih = absurd (false≢true (rw z at e))
    go (inl z) (suc j) h e ih = rw z (omega (arith, ih j (omega arith) e))
    go (inr z) j h e ih = rw z (omega arith)

trailing_bit : (n a : ℕ) → count_trailing_zeros n a < n → bit (count_trailing_zeros n a) a ≡ true
unfolding count_trailing_zeros
trailing_bit zero a h = absurd (omega arith)
trailing_bit (suc n) a h = go (low (a % 2) (omega arith)) h (trailing_bit n (a / 2))
  where
    go : (a % 2 ≡ 0) ⊎ (a % 2 ≡ 1) → under (a % 2) (count_trailing_zeros n (a / 2)) < suc n → (count_trailing_zeros n (a / 2) < n → bit (count_trailing_zeros n (a / 2)) (a / 2) ≡ true)
        → bit (under (a % 2) (count_trailing_zeros n (a / 2))) a ≡ true
    go (inl z) h ih = rw z (ih (omega (arith, rw z at h)))
    go (inr z) h ih = rw z (rw z refl)

-- ---- the test

module _ (ks ms : List ℕ) (a b : ℕ) (ha : a ≡ state ks) (hb : b ≡ state ms) where
  bit_both : (k : ℕ) → bit k (bit_and a b) ≡ (among k ks && among k ms)
  bit_both k = bit_and_lem k a b ∙ rw (ha, hb, bit_state k ks, bit_state k ms)

  pub no_common : bit_and a b ≡ 0 → common ks ms ≡ none
  no_common z = go (common ks ms) refl (shared ks ms)
    where
      go : (o : Option ℕ) → common ks ms ≡ o → Shared ks ms o → o ≡ none
      go none e h = refl
      go (some k) e h = absurd (false≢true (sym (bit_zero k) ∙ rw z at (bit_both k) ∙ rw (h.0, h.1)))

  pub lowest_common : a < 2 ^ LETTERS → b < 2 ^ LETTERS → (bit_and a b ≡ 0 → ⊥) → common ks ms ≡ some (count_trailing_zeros LETTERS (bit_and a b))
  lowest_common la lb n = go (common ks ms) refl (shared ks ms)
    where
      small : bit_and a b < 2 ^ LETTERS
      small = and_lt LETTERS a b la lb

      the : (x y : ℕ) → some x ≡ some y → x ≡ y
      the x y e = cc

      go : (o : Option ℕ) → common ks ms ≡ o → Shared ks ms o → o ≡ some (count_trailing_zeros LETTERS (bit_and a b))
      go none e h = absurd (n (no_bits LETTERS (bit_and a b) small (λ k. not_so _ (λ t. let p = and_both (among k ks) (among k ms) (sym (bit_both k) ∙ t) in h k p.0 p.1))))
      go (some m) e h =
          let bm : bit m (bit_and a b) ≡ true = bit_both m ∙ rw (h.0, h.1) in
          let l = bit_below LETTERS m (bit_and a b) small bm in
          let t = count_trailing_zeros LETTERS (bit_and a b) in
          let u : t ≤ m = trailing_low LETTERS (bit_and a b) m l bm in
          let p = and_both (among t ks) (among t ms) (sym (bit_both t) ∙ trailing_bit LETTERS (bit_and a b) (omega arith)) in
          let w = lowest ks ms t p.0 p.1 in
          let i : w.0 ≡ m = the w.0 m (sym w.1 ∙ e) in
          let j : m ≡ t = omega (arith, w.2) in
          ap {B = Option ℕ} some j
