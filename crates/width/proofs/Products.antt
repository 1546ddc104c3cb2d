-- The product over formulas that stand one after the other.
-- Assumes nothing.
use mathlib.Core.Path.{◌≡◌, sym, ap, ◌∙◌}
use mathlib.Core.List.{List, ◌∷◌}
use Prim.Native.Nat.{ℕ, ◌+◌, ◌-◌, ◌*◌, ◌^◌, ◌≤◌, ◌<◌}
use native.Mathlib.Nat.{add_assoc, mul_assoc, mul-le-mul, mul-one, add-zero, one-mul, zero-add, le_refl, le_trans}
use native.Mathlib.Omega.{arith}
use lib.Pow.{pow-add, pow_mono}
use lib.ListN.{length, take, drop, length-append}
use Rattle.calculus.specs.declared.Side.{Side}
use Rattle.calculus.specs.Fold.{fold, SUM, PRODUCT}
use Rattle.calculus.specs.Limits.{CONNECTIVES}
use Rattle.calculus.specs.Syntax.{connectives}
use Rattle.calculus.specs.Bytes.{encode, encode_all, formulas, bytes_all}
use Rattle.calculus.specs.Width.{width}
use Rattle.calculus.proofs.Bounds.{width_le}
use Rattle.question.specs.Positions.{Well, formula_at, end_of}
use Rattle.question.proofs.Parts.{next_due}
use Rattle.width.specs.declared.Walked.{Walked}
use Rattle.width.specs.Walks.{product_of}

-- w and k so far, and the product of the formulas ahead
abbrev onto : ℕ → ℕ → Walked ℕ → Walked ℕ
onto w k r = record { value = w * r.value; connectives = k + r.connectives; end = r.end }

-- with d formulas due at e, they come to the whole
pub record Ahead (q : List ℕ) (s : Side) (all : Walked ℕ) (w k e d : ℕ) : Type 0 where
  pub due : d ≤ length (formulas (drop e q))
  pub small : w ≤ 2 ^ k
  pub same : onto w k (product_of s e (take d (formulas (drop e q)))) ≡ all

pub ahead_first : (q : List ℕ) (s : Side) (at n : ℕ) → n ≤ length (formulas (drop at q)) → Ahead q s (product_of s at (take n (formulas (drop at q)))) 1 0 at n
ahead_first q s at n h =
    let r = product_of s at (take n (formulas (drop at q))) in
    record { due = h; small = le_refl 1; same = λ i. record { value = one-mul r.value i; connectives = zero-add r.connectives i; end = r.end } }

-- the next formula is counted, and what follows it is ahead
pub record Onward (q : List ℕ) (s : Side) (all : Walked ℕ) (w k e d : ℕ) : Type 0 where
  pub well : Well q e
  pub counted : k + connectives (formula_at q e) ≤ CONNECTIVES
  pub fits : w * width s (formula_at q e) ≤ 2 ^ CONNECTIVES
  pub next : (n : ℕ) → n ≡ d - 1 → Ahead q s all (w * width s (formula_at q e)) (k + connectives (formula_at q e)) (end_of q e) n

module _ (q : List ℕ) (s : Side) (all : Walked ℕ) (w k e d : ℕ) (a : Ahead q s all w k e d) where
  pub ahead_last : d ≤ 0 → record { value = w; connectives = k; end = e } ≡ all
  ahead_last l =
      let z : d ≡ 0 = omega arith in
      (λ i. record { value = sym (mul-one w) i; connectives = sym (add-zero k) i; end = sym (add-zero e) i }) ∙ rw z at a.same

  pub ahead_next : 0 < d → all.connectives ≤ CONNECTIVES → Onward q s all w k e d
  ahead_next h r =
      let x = formula_at q e in
      let ys = take (d - 1) (formulas (drop (end_of q e) q)) in
      let n = next_due q e d h a.due in
      let t : onto w k (product_of s e (x ∷ ys)) ≡ all = rw n.split at a.same in
      let m : k + connectives x ≤ CONNECTIVES = omega (arith, ap (λ (p : Walked ℕ). p.connectives) t) in
      let g : w * width s x ≤ 2 ^ (k + connectives x) = rw pow-add (mul-le-mul a.small (width_le s x)) in
      let b : end_of q e + bytes_all ys ≡ e + bytes_all (x ∷ ys) = omega (arith, length-append (encode x) (encode_all ys)) in
      record {
        well = n.well;
        counted = m;
        fits = le_trans g (pow_mono {j = CONNECTIVES} m);
        next = λ m i. rw i (record {
          due = n.due;
          small = g;
          same = (λ i. record { value = mul_assoc w (width s x) (fold PRODUCT (width s) ys) i; connectives = add_assoc k (connectives x) (fold SUM connectives ys) i; end = b i }) ∙ t;
        });
      }
