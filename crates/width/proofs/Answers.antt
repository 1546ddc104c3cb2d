-- The sides' products and the answer of an accepted question.
-- Assumes nothing.
use mathlib.Core.Path.{◌≡◌, refl}
use mathlib.Core.List.{List}
use Prim.Native.Nat.{ℕ, ◌+◌, ◌*◌, ◌^◌, ◌≤◌}
use native.Mathlib.Nat.{le_trans}
use native.Mathlib.Omega.{arith}
use lib.Pow.{pow_mono}
use Rattle.calculus.specs.declared.Side.{Side}
use Rattle.calculus.specs.declared.Side.TheVariants.{Left, Right}
use Rattle.calculus.specs.Fold.{fold, SUM}
use Rattle.calculus.specs.Limits.{CONNECTIVES}
use Rattle.calculus.specs.Syntax.{on_side, connectives, c}
use Rattle.calculus.specs.Bytes.{question}
use Rattle.calculus.specs.Reading.{accepted, reading}
use Rattle.calculus.proofs.Bounds.{W_bound}
use Rattle.calculus.proofs.Readings.{accepted_question}
use Rattle.question.specs.declared.Question.{Question}
use Rattle.question.specs.declared.Formulas.{Formulas}
use Rattle.width.specs.declared.Walked.{Walked}
use Rattle.width.specs.Walks.{product_of}
use Rattle.width.specs.Answers.{Sized}

module _ (q : List ℕ) (a : reading q ≡ accepted) where
  all_counted : c (question q) ≤ CONNECTIVES
  all_counted = (accepted_question q a).0.connectives

  pub side_counted : (s : Side) → fold SUM connectives (on_side s (question q)) ≤ CONNECTIVES
  side_counted Left = omega (arith, all_counted)
  side_counted Right = omega (arith, all_counted)

  pub sized_fits : (w n : ℕ) → Sized q w n → (w ≤ 2 ^ CONNECTIVES) × (n ≤ CONNECTIVES)
  sized_fits w n z =
      let k : n ≤ CONNECTIVES = omega (arith, z.is_count, all_counted) in
      (le_trans z.bounded (pow_mono {j = CONNECTIVES} k), k)

-- W and c of both sides' products
pub sized : (q : Question) (xs ys : Formulas) (l r : Walked ℕ) → (xs.q.bytes ≡ q.bytes) × (xs.side ≡ Left) → (ys.q.bytes ≡ q.bytes) × (ys.side ≡ Right)
    → l ≡ product_of xs.side xs.start (on_side xs.side (question xs.q.bytes.now))
    → r ≡ product_of ys.side ys.start (on_side ys.side (question ys.q.bytes.now))
    → Sized q.bytes.now (l.value * r.value) (l.connectives + r.connectives)
sized q xs ys l r i j e h = rw (e, h, i.0, i.1, j.0, j.1) (record { is_width = refl; is_count = refl; bounded = W_bound (question q.bytes.now) })
