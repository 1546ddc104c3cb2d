-- The letters of formulas, gathered in a walk over their commands.
-- Assumes nothing.
use mathlib.Core.Path.{◌≡◌, refl, sym, ap, ◌∙◌}
use mathlib.Core.Bool.{Bool, true, ◌||◌, or_assoc, or_comm, or-false}
use mathlib.Core.List.{List}
use Prim.Native.Nat.{ℕ, ◌+◌, ◌-◌, ◌^◌, ◌≤◌, ◌<◌}
use native.Mathlib.Omega.{arith}
use lib.Bits.{bit_or, or_comm as bit_or_comm}
use lib.Dec.{eqb}
use lib.ListN.{length, take, drop, get_or}
use borrow.Author.Tests.{eq-eqb}
use Rattle.calculus.specs.Fold.{fold, ANY, Each}
use Rattle.calculus.specs.Limits.{LETTERS}
use Rattle.calculus.specs.Syntax.{Formula}
use Rattle.calculus.specs.Bytes.{formulas, Lettered}
use Rattle.calculus.specs.Truth.{bit}
use Rattle.calculus.specs.States.{occurs}
use Rattle.calculus.proofs.Folds.{or_left, or_right}
use Rattle.calculus.proofs.Letters.{occurs_all}
use Rattle.calculus.proofs.Trees.{bit_light, light_or}
use Rattle.question.specs.Positions.{Reached, Marks}
use Rattle.question.proofs.Walks.{passed}

-- one letter more
pub bit_marked : (set k m : ℕ) → bit m (bit_or set (2 ^ k)) ≡ (bit m set || eqb m k)
bit_marked set k m = ap (bit m) (bit_or_comm set (2 ^ k) ∙ light_or k set) ∙ bit_light m k set ∙ or_comm (eqb m k) (bit m set)

-- what the formulas ahead add to the set so far is what all add to the set at first
pub record Marking (q : List ℕ) (all : List Formula) (first set i d : ℕ) : Type 0 where
  pub due : d ≤ length (formulas (drop i q))
  pub below : (k : ℕ) → fold ANY (occurs k) (take d (formulas (drop i q))) ≡ true → k < LETTERS
  pub same : (k : ℕ) → (bit k set || fold ANY (occurs k) (take d (formulas (drop i q)))) ≡ (bit k first || fold ANY (occurs k) all)

pub marking_first : (q : List ℕ) (set at n : ℕ) → n ≤ length (formulas (drop at q)) → Each Lettered (take n (formulas (drop at q)))
    → Marking q (take n (formulas (drop at q))) set set at n
marking_first q set at n h k = record { due = h; below = λ j e. occurs_all LETTERS j (take n (formulas (drop at q))) k e; same = λ j. refl }

-- the letter at j is read: it is one, and with it in the set the marking stands past it
pub record Marked (q : List ℕ) (all : List Formula) (first set j e : ℕ) : Type 0 where
  pub letter : get_or q (j + 1) 0 < LETTERS
  pub next : (r : ℕ) → ((k : ℕ) → bit k r ≡ (bit k set || eqb k (get_or q (j + 1) 0))) → Marking q all first r (j + 2) (e - 1)

module _ {q : List ℕ} {all : List Formula} {first set i d : ℕ} (a : Marking q all first set i d) where
  pub marking_last : d ≤ 0 → Marks all first set
  marking_last l k =
      let z : d ≡ 0 = omega arith in
      sym (or-false (bit k set)) ∙ rw z at (a.same k)

  pub marking_next : {j e : ℕ} → Reached q i d j e → get_or q j 0 ≡ 1 → Marked q all first set j e
  marking_next {j} {e} r h =
      let w = passed r h in
      let m = get_or q (j + 1) 0 in
      let ahead : ℕ → Bool = λ k. fold ANY (occurs k) (take (e - 1) (formulas (drop (j + 2) q))) in
      record {
        letter = a.below m (w.letters m ∙ or_left (eqb m m) (ahead m) (eq-eqb m m refl));
        next = λ s f. record {
          due = w.due;
          below = λ k l. a.below k (w.letters k ∙ or_right (eqb k m) (ahead k) l);
          same = λ k. ap (λ (x : Bool). x || ahead k) (f k) ∙ or_assoc (bit k set) (eqb k m) (ahead k) ∙ ap (λ (x : Bool). bit k set || x) (sym (w.letters k)) ∙ a.same k;
        };
      }
