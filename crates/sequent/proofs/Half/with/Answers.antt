use Rattle.std.proofs.Common.{◌≡◌, sym, ap, ◌∙◌, ℕ, ◌*◌, ◌%◌, ◌^◌, ◌<◌, ◌≤◌, arith, bit_or, lt-ltb, le-ltb}
use Rattle.std.specs.Int.Bits.{or_zero_r}
use lib.Pow.{pow_mono}
use Rattle.calculus.specs.Limits.{LETTERS}
use Rattle.sequent.specs.View.{bit_of, compound_bit}
use Rattle.sequent.proofs.Half.with.Goals as goal

-- a bit of a word
bit_fits : (k : ℕ) → k < 64 → 1 * 2 ^ k % 2 ^ 64 ≡ 2 ^ k
bit_fits k h = let l : k ≤ 63 = omega arith in let p : 2 ^ k ≤ 2 ^ 63 = pow_mono l in omega (arith, p)

pub returns-then-name-lt-LETTERS : goal.returns-then-name-lt-LETTERS
returns-then-name-lt-LETTERS c =
    let h = c.args.self in
    let x = c.args.name in
    let low : x % 64 ≡ x = omega (arith, c.if-name-lt-LETTERS.true) in
    let bit : 1 * 2 ^ (x % 64) % 2 ^ 64 ≡ bit_of x = bit_fits (x % 64) (omega arith) ∙ rw (low, lt-ltb x LETTERS c.if-name-lt-LETTERS.true) in
    let none : 0 ≡ compound_bit x = rw (lt-ltb x LETTERS c.if-name-lt-LETTERS.true) in
    λ i. record { count = h.count; mask = bit_or h.mask (bit i); set = (sym (or_zero_r h.set) ∙ ap (bit_or h.set) none) i }

pub returns-else-name-lt-LETTERS : goal.returns-else-name-lt-LETTERS
returns-else-name-lt-LETTERS c =
    let h = c.args.self in
    let x = c.args.name in
    let bit : 1 * 2 ^ (x % 64) % 2 ^ 64 ≡ compound_bit x = bit_fits (x % 64) (omega arith) ∙ rw (le-ltb x LETTERS c.if-name-lt-LETTERS.false) in
    let none : 0 ≡ bit_of x = rw (le-ltb x LETTERS c.if-name-lt-LETTERS.false) in
    λ i. record { count = h.count; mask = (sym (or_zero_r h.mask) ∙ ap (bit_or h.mask) none) i; set = bit_or h.set (bit i) }
