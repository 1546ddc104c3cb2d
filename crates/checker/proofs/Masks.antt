-- The letters of a mask.
-- Assumes nothing.
use mathlib.Core.Path.{◌≡◌, ◌∙◌}
use mathlib.Core.Bool.{false}
use Prim.Native.Nat.{ℕ, zero, suc, ◌/◌, ◌%◌, ◌^◌, ◌≤◌, ◌<◌}
use native.Mathlib.Nat.{div-one, div-div-eq-div-mul, div-eq_of_lt, pow-succ'}
use native.Mathlib.Omega.{arith}
use lib.Dec.{eqb}
use lib.Pow.{pow_mono}
use Rattle.calculus.specs.Limits.{LETTERS}
use Rattle.calculus.specs.Truth.{bit}

pub bit_shift : (k m : ℕ) → bit k m ≡ eqb (m / 2 ^ k % 2) 1
bit_shift zero m = rw (div-one m)
bit_shift (suc k) m = bit_shift k (m / 2) ∙ rw (div-div-eq-div-mul m 2 (2 ^ k), pow-succ' 2 k)

pub bit_high : (k m : ℕ) → m < 2 ^ LETTERS → LETTERS ≤ k → bit k m ≡ false
bit_high k m h l =
    let e : m / 2 ^ k ≡ 0 = div-eq_of_lt (omega (arith, pow_mono l)) in
    bit_shift k m ∙ rw e
