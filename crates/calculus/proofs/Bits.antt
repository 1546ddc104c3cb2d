-- What the operations on words do to each bit.
-- Assumes nothing.
use mathlib.Core.Path.{◌≡◌, refl, sym}
use mathlib.Core.Bool.{Bool, true, false, not, ◌&&◌, ◌||◌, beq}
use Prim.Native.Nat.{ℕ, zero, suc, ◌+◌, ◌*◌, ◌/◌, ◌%◌, min, max, ◌<◌}
use native.Mathlib.Omega.{arith}
use lib.Bits.{bit_and, bit_or, bit_xor, differ, and_step, or_step, xor_step}
use lib.Dec.{eqb, ltb}
use borrow.Author.Tests.{ltb-true}
use Rattle.calculus.specs.Truth.{bit}
use Rattle.calculus.proofs.Folds.{and_both}

-- what an operation does to two digits
record Digit (f : ℕ → ℕ → ℕ) (m : Bool → Bool → Bool) (x y : ℕ) : Type 0 where
  small : f x y < 2
  tells : eqb (f x y) 1 ≡ m (eqb x 1) (eqb y 1)

pub beq_same : (a b : Bool) → beq a b ≡ true → a ≡ b
beq_same true true e = refl
beq_same false false e = refl
beq_same true false e = sym e
beq_same false true e = e

-- by a test that is computed
abbrev tells : (ℕ → ℕ → ℕ) → (Bool → Bool → Bool) → ℕ → ℕ → Bool
tells f m x y = ltb (f x y) 2 && beq (eqb (f x y) 1) (m (eqb x 1) (eqb y 1))

digit_by : (f : ℕ → ℕ → ℕ) (m : Bool → Bool → Bool) → tells f m 0 0 ≡ true → tells f m 0 1 ≡ true → tells f m 1 0 ≡ true → tells f m 1 1 ≡ true → (x y : ℕ) → x < 2 → y < 2 → Digit f m x y
digit_by f m a b c d x y h k = digit x y (go x y h k)
  where
    digit : (x y : ℕ) → tells f m x y ≡ true → Digit f m x y
    digit x y e =
        let p = and_both (ltb (f x y) 2) (beq (eqb (f x y) 1) (m (eqb x 1) (eqb y 1))) e in
        record { small = ltb-true (f x y) 2 p.0; tells = beq_same (eqb (f x y) 1) (m (eqb x 1) (eqb y 1)) p.1 }

    go : (x y : ℕ) → x < 2 → y < 2 → tells f m x y ≡ true
    go zero zero h k = a
    go zero (suc zero) h k = b
    go (suc zero) zero h k = c
    go (suc zero) (suc zero) h k = d
    go (suc (suc x)) y h k = absurd (omega arith)
    go zero (suc (suc y)) h k = absurd (omega arith)
    go (suc zero) (suc (suc y)) h k = absurd (omega arith)

-- an operation that goes by digits goes by bits
module _ (op f : ℕ → ℕ → ℕ) (m : Bool → Bool → Bool)
    (step : (a b : ℕ) → op a b ≡ op (a / 2) (b / 2) * 2 + f (a % 2) (b % 2))
    (digit : (x y : ℕ) → x < 2 → y < 2 → Digit f m x y) where
  bit_by : (j a b : ℕ) → bit j (op a b) ≡ m (bit j a) (bit j b)
  bit_by zero a b =
      let d = digit (a % 2) (b % 2) (omega arith) (omega arith) in
      let e : op a b % 2 ≡ f (a % 2) (b % 2) = omega (arith, step a b, d.small) in
      rw e d.tells
  bit_by (suc j) a b =
      let d = digit (a % 2) (b % 2) (omega arith) (omega arith) in
      let e : op a b / 2 ≡ op (a / 2) (b / 2) = omega (arith, step a b, d.small) in
      rw e (bit_by j (a / 2) (b / 2))

pub bit_and_lem : (j a b : ℕ) → bit j (bit_and a b) ≡ (bit j a && bit j b)
bit_and_lem = bit_by bit_and min ◌&&◌ and_step (digit_by min ◌&&◌ refl refl refl refl)

pub bit_or_lem : (j a b : ℕ) → bit j (bit_or a b) ≡ (bit j a || bit j b)
bit_or_lem = bit_by bit_or max ◌||◌ or_step (digit_by max ◌||◌ refl refl refl refl)

pub bit_xor_lem : (j a b : ℕ) → bit j (bit_xor a b) ≡ not (beq (bit j a) (bit j b))
bit_xor_lem = bit_by bit_xor differ (λ p q. not (beq p q)) xor_step (digit_by differ (λ p q. not (beq p q)) refl refl refl refl)
