-- What is stored in a lent buffer, the reply with it, and what a contract says of both.
-- Assumes nothing.
use mathlib.Core.Path.{◌≡◌, sym, ap, ◌∙◌}
use mathlib.Core.List.{List, [], ◌∷◌, ◌++◌}
use Prim.Native.Nat.{ℕ, suc, ◌+◌, ◌≤◌, ◌<◌}
use native.Mathlib.Nat.{add-zero, zero-add}
use native.Mathlib.Omega.{arith}
use lib.Dec.{ltb}
use lib.ListN.{length, take, drop, set}
use lib.Seq.{sets, sets-eq, take_at}
use borrow.Author.Tests.{lt-ltb, le-ltb}
use Rattle.calculus.specs.Limits.{VARIED, NO_SPACE, MANY_LETTERS}
use Rattle.calculus.specs.Syntax.{Sequent}
use Rattle.calculus.specs.States.{letters_in, refuting}
use Rattle.calculus.specs.Reply.{Reply, Written, unwritten, fill_out, list_out}

-- one part behind another
pub sets_append : (l : List ℕ) (i : ℕ) (xs ys : List ℕ) → sets (sets l i xs) (i + length xs) ys ≡ sets l i (xs ++ ys)
sets_append l i [] ys = ap (λ (k : ℕ). sets l k ys) (add-zero i)
sets_append l i (x ∷ xs) ys =
    let z : i + suc (length xs) ≡ suc i + length xs = omega arith in
    ap (λ (k : ℕ). sets (sets (set l i x) (suc i) xs) k ys) z ∙ sets_append (set l i x) (suc i) xs ys

-- from the first place on: the rest keeps its content
pub sets_start : (l xs : List ℕ) → length xs ≤ length l → sets l 0 xs ≡ xs ++ drop (length xs) l
sets_start l xs h =
    let z : 0 + length xs ≤ length l = omega arith in
    sets-eq xs l 0 z ∙ ap (λ (k : ℕ). xs ++ drop k l) (zero-add (length xs))

-- ---- by the test of the room

pub no_room : (xs vs old : List ℕ) → length old < length xs → fill_out xs vs old ≡ unwritten NO_SPACE (length xs ∷ []) old
no_room xs vs old h = rw (lt-ltb (length old) (length xs) h)

pub room : (xs vs old : List ℕ) → length xs ≤ length old
    → fill_out xs vs old ≡ record { reply = record { number = 0; values = length xs ∷ vs }; buffer = xs ++ drop (length xs) old }
room xs vs old h = rw (le-ltb (length old) (length xs) h)

-- ---- the answers of a call that fills a buffer

-- what its contract says of an answer r, `done n` where n items are written: number and values, the buffer, and what holds of the items
abbrev pub Answers : {A : Type 0} → (A → Reply) → (ℕ → A) → (List ℕ → Type 0) → Written → List ℕ → A → Type 0
Answers of done Q w new r = (of r ≡ w.reply) × (new ≡ w.buffer) × ((n : ℕ) → r ≡ done n → Q (take n new))

module _ {A : Type 0} (of : A → Reply) (done : ℕ → A) (Q : List ℕ → Type 0) (w : Written) (old : List ℕ) where
  -- nothing is written
  pub kept_answer : (n : ℕ) (vs : List ℕ) → unwritten n vs old ≡ w → (r : A) → of r ≡ record { number = n; values = vs } → ((k : ℕ) → r ≡ done k → ⊥)
      → Answers of done Q w old r
  kept_answer n vs e r f u = (f ∙ ap (λ (x : Written). x.reply) e, ap (λ (x : Written). x.buffer) e, λ k h. absurd (u k h))

  -- xs are written
  pub filled_answer : (xs new : List ℕ) (k : ℕ) → w ≡ fill_out xs [] old → k ≡ length xs → k ≤ length old → new ≡ sets old 0 xs
      → of (done k) ≡ record { number = 0; values = k ∷ [] } → ((n : ℕ) → done k ≡ done n → n ≡ k) → Q xs → Answers of done Q w new (done k)
  filled_answer xs new k e count l o f same q =
      let fits : length xs ≤ length old = rw (← count) l in
      let v = e ∙ room xs [] old fits in
      let b : new ≡ xs ++ drop (length xs) old = o ∙ sets_start old xs fits in (
        f ∙ (ap (λ (m : ℕ). record { number = 0; values = m ∷ [] }) count ∙ ap (λ (x : Written). x.reply) (sym v)),
        b ∙ ap (λ (x : Written). x.buffer) (sym v),
        λ n d.
            let t : take n new ≡ xs = ap (take n) b ∙ take_at xs (drop (length xs) old) n (sym (same n d ∙ count)) in
            rw t q,
      )

-- ---- by the test of the letters

pub many_letters : (S : Sequent) (old : List ℕ) → VARIED < length (letters_in S)
    → list_out (ltb VARIED (length (letters_in S))) (letters_in S) S old ≡ unwritten MANY_LETTERS (length (letters_in S) ∷ []) old
many_letters S old h = rw (lt-ltb VARIED (length (letters_in S)) h)

pub few_letters : (S : Sequent) (old : List ℕ) → length (letters_in S) ≤ VARIED → list_out (ltb VARIED (length (letters_in S))) (letters_in S) S old ≡ fill_out (refuting S) [] old
few_letters S old h = rw (le-ltb VARIED (length (letters_in S)) h)
