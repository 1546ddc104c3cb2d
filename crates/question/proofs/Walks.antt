-- Formulas at positions: what stands behind n formulas, and what a walk over commands passes.
-- Assumes nothing.
use mathlib.Core.Path.{◌≡◌, refl, sym, ap, ◌∙◌}
use mathlib.Core.Bool.{Bool, true, false, ◌&&◌, ◌||◌, or_assoc}
use mathlib.Core.Option.{Option, none, some}
use mathlib.Core.List.{List, [], ◌∷◌, append_assoc, append-nil}
use Prim.Native.Nat.{ℕ, zero, suc, ◌+◌, ◌-◌, ◌≤◌, ◌<◌}
use native.Mathlib.Numerals.{add-one, one-add}
use native.Mathlib.Nat.{add-zero}
use native.Mathlib.Omega.{arith}
use lib.Dec.{eqb}
use lib.ListN.{length, take, drop, get_or, length-drop}
use lib.Seq.{drop-drop, get_or-drop}
use borrow.Author.Tests.{ne_eqb}
use Rattle.calculus.specs.Fold.{fold, ANY, choose}
use Rattle.calculus.specs.Syntax.{Binary, AND, OR, IMPLIES, EQUIV, Connective, NOT, two, Formula, letter, neg, join}
use Rattle.calculus.specs.Bytes.{Command, SIDE, LETTER, CONNECTIVE, code, command, encode, encode_all, attach, spell, formulas, bytes, bytes_all}
use Rattle.calculus.specs.States.{occurs}
use Rattle.calculus.proofs.Spelling.{command_byte}
use Rattle.question.specs.Positions.{Well, first_of, end_of, due_after, Reached}

-- ---- one command of a list of bytes that spells more than m formulas

-- the bytes of a command with its operand
abbrev pub command_length : ℕ → ℕ
command_length b = choose (eqb b 1) 2 1

-- a command with the byte behind it names letter k
abbrev pub names : ℕ → ℕ → ℕ → Bool
names b m k = eqb b 1 && eqb k m

-- n bytes on, d formulas are due
pub record Walked (l : List ℕ) (m n d : ℕ) : Type 0 where
  pub inside : n ≤ length l
  pub onward : 1 ≤ n
  pub due : d ≤ length (formulas (drop n l))
  pub sizes : bytes_all (take (suc m) (formulas l)) ≡ n + bytes_all (take d (formulas (drop n l)))
  pub left_over : drop (suc m) (formulas l) ≡ drop d (formulas (drop n l))
  pub letters : (k : ℕ) → fold ANY (occurs k) (take (suc m) (formulas l)) ≡ (names (get_or l 0 0) (get_or l 1 0) k || fold ANY (occurs k) (take d (formulas (drop n l))))

walked_letter : (b k : ℕ) (bs : List ℕ) (m : ℕ) → command b ≡ some LETTER → b ≡ 1 → suc m ≤ length (formulas (b ∷ k ∷ bs)) → Walked (b ∷ k ∷ bs) m 2 m
walked_letter b k bs m e c h =
    let f : formulas (b ∷ k ∷ bs) ≡ letter k ∷ formulas bs = rw e in
    let n : suc m ≤ suc (length (formulas bs)) = rw f at h in
    record { inside = omega arith; onward = omega arith; due = omega arith; sizes = rw f (omega arith); left_over = rw f; letters = λ j. rw (f, c) }

walked_not : (b k : ℕ) (bs : List ℕ) (m : ℕ) → command b ≡ some (CONNECTIVE NOT) → b ≡ 2 → suc m ≤ length (formulas (b ∷ k ∷ bs))
    → Walked (b ∷ k ∷ bs) m 1 (suc m)
walked_not b k bs m e c h = go (formulas (k ∷ bs)) refl
  where
    go : (xs : List Formula) → formulas (k ∷ bs) ≡ xs → Walked (b ∷ k ∷ bs) m 1 (suc m)
    go [] f = let g : formulas (b ∷ k ∷ bs) ≡ [] = rw (e, f) in absurd (omega (arith, ap length g))
    go (x ∷ xs) f =
        let g : formulas (b ∷ k ∷ bs) ≡ neg x ∷ xs = rw (e, f) in
        let n : suc m ≤ suc (length xs) = rw g at h in
        record { inside = omega arith; onward = omega arith; due = rw f n; sizes = rw (g, f) (omega arith); left_over = rw (g, f); letters = λ j. rw (g, f, c) }

two_names : (o : Binary) → eqb (code (CONNECTIVE (two o))) 1 ≡ false
two_names AND = refl
two_names OR = refl
two_names IMPLIES = refl
two_names EQUIV = refl

walked_two : (o : Binary) (b k : ℕ) (bs : List ℕ) (m : ℕ) → command b ≡ some (CONNECTIVE (two o)) → b ≡ code (CONNECTIVE (two o)) → suc m ≤ length (formulas (b ∷ k ∷ bs))
    → Walked (b ∷ k ∷ bs) m 1 (suc (suc m))
walked_two o b k bs m e c h = go (formulas (k ∷ bs)) refl
  where
    go : (xs : List Formula) → formulas (k ∷ bs) ≡ xs → Walked (b ∷ k ∷ bs) m 1 (suc (suc m))
    go [] f = let g : formulas (b ∷ k ∷ bs) ≡ [] = rw (e, f) in absurd (omega (arith, ap length g))
    go (x ∷ []) f = let g : formulas (b ∷ k ∷ bs) ≡ [] = rw (e, f) in absurd (omega (arith, ap length g))
    go (x ∷ y ∷ xs) f =
        let g : formulas (b ∷ k ∷ bs) ≡ join o x y ∷ xs = rw (e, f) in
        let n : suc m ≤ suc (length xs) = rw g at h in
        record {
          inside = omega arith;
          onward = omega arith;
          due = rw f (omega arith);
          sizes = rw (g, f) (ap suc (ap length (append_assoc (encode x) (encode y) (encode_all (take m xs)))) ∙ sym (one-add _));
          left_over = rw (g, f);
          letters = λ j. rw (g, f, c, two_names o) (or_assoc (occurs j x) (occurs j y) (fold ANY (occurs j) (take m xs)));
        }

-- by the code's tests of the byte
two_due : (o : Binary) (m : ℕ) → due_after (suc m) (code (CONNECTIVE (two o))) ≡ suc (suc m)
two_due AND m = add-one (suc m)
two_due OR m = add-one (suc m)
two_due IMPLIES m = add-one (suc m)
two_due EQUIV m = add-one (suc m)

two_length : (o : Binary) → command_length (code (CONNECTIVE (two o))) ≡ 1
two_length AND = refl
two_length OR = refl
two_length IMPLIES = refl
two_length EQUIV = refl

pub walked : (l : List ℕ) (m : ℕ) → suc m ≤ length (formulas l) → Walked l m (command_length (get_or l 0 0)) (due_after (suc m) (get_or l 0 0))
walked [] m h = absurd (omega arith)
walked (b ∷ []) m h = absurd (omega arith)
walked (b ∷ k ∷ bs) m h = go (command b) refl
  where
    go : (o : Option Command) → command b ≡ o → Walked (b ∷ k ∷ bs) m (command_length b) (due_after (suc m) b)
    go none e = let g : formulas (b ∷ k ∷ bs) ≡ [] = rw e in absurd (omega (arith, ap length g))
    go (some (SIDE s)) e = let g : formulas (b ∷ k ∷ bs) ≡ [] = rw e in absurd (omega (arith, ap length g))
    go (some LETTER) e =
        let c : b ≡ 1 = sym (command_byte b LETTER e) in
        let n : command_length b ≡ 2 = rw c in
        let d : due_after (suc m) b ≡ m = rw c (omega arith) in
        rw (n, d) (walked_letter b k bs m e c h)
    go (some (CONNECTIVE NOT)) e =
        let c : b ≡ 2 = sym (command_byte b (CONNECTIVE NOT) e) in
        let n : command_length b ≡ 1 = rw c in
        let d : due_after (suc m) b ≡ suc m = rw c in
        rw (n, d) (walked_not b k bs m e c h)
    go (some (CONNECTIVE (two o))) e =
        let c = sym (command_byte b (CONNECTIVE (two o)) e) in
        rw (ap command_length c ∙ two_length o, ap (due_after (suc m)) c ∙ two_due o m) (walked_two o b k bs m e c h)

-- ---- lengths

attach_length : (k : Connective) (xs : List Formula) → length (attach k xs) ≤ length xs
attach_length NOT [] = omega arith
attach_length NOT (x ∷ xs) = omega arith
attach_length (two o) [] = omega arith
attach_length (two o) (x ∷ []) = omega arith
attach_length (two o) (x ∷ y ∷ xs) = omega arith

spell_length : (o : Option Command) (k : ℕ) (past here : List Formula) (n : ℕ) → suc (length past) ≤ n → length here ≤ n → length (spell o k past here) ≤ n
spell_length none k past here n p q = omega arith
spell_length (some (SIDE s)) k past here n p q = omega arith
spell_length (some LETTER) k past here n p q = p
spell_length (some (CONNECTIVE j)) k past here n p q = omega (arith, attach_length j here)

pub formulas_length : (l : List ℕ) → length (formulas l) ≤ length l
formulas_length [] = omega arith
formulas_length (b ∷ []) = omega arith
formulas_length (b ∷ k ∷ bs) =
    spell_length (command b) k (formulas bs) (formulas (k ∷ bs)) (suc (suc (length bs))) (omega (arith, formulas_length bs)) (omega (arith, formulas_length (k ∷ bs)))

-- a formula stands within the bytes
pub well_inside : (q : List ℕ) (at : ℕ) → Well q at → at + 1 < length q
well_inside q at h = go (drop at q) (omega (arith, length-drop at q)) h
  where
    go : (l : List ℕ) → (1 < length l → at + 1 < length q) → 1 ≤ length (formulas l) → at + 1 < length q
    go [] f h = absurd (omega arith)
    go (b ∷ []) f h = absurd (omega arith)
    go (b ∷ k ∷ bs) f h = f (omega arith)

-- ---- what stands behind n formulas

skip_by : (k : ℕ) (l : List ℕ) → length l ≤ k → (n : ℕ) → n ≤ length (formulas l) → formulas (drop (bytes_all (take n (formulas l))) l) ≡ drop n (formulas l)
skip_by zero l f n h = go n h
  where
    go : (n : ℕ) → n ≤ length (formulas l) → formulas (drop (bytes_all (take n (formulas l))) l) ≡ drop n (formulas l)
    go zero h = refl
    go (suc n) h = absurd (omega (arith, formulas_length l))
skip_by (suc k) l f n h = go n h (λ l' f' n' h'. skip_by k l' f' n' h')
  where
    go : (n : ℕ) → n ≤ length (formulas l)
        → ((l' : List ℕ) → length l' ≤ k → (n' : ℕ) → n' ≤ length (formulas l') → formulas (drop (bytes_all (take n' (formulas l'))) l') ≡ drop n' (formulas l'))
        → formulas (drop (bytes_all (take n (formulas l))) l) ≡ drop n (formulas l)
    go zero h ih = refl
    go (suc n) h ih =
        let w = walked l n h in
        let j = command_length (get_or l 0 0) in
        let d = due_after (suc n) (get_or l 0 0) in
        let s : length (drop j l) ≤ k = omega (arith, length-drop j l, w.inside, w.onward) in
        ap (λ (m : ℕ). formulas (drop m l)) w.sizes ∙ ap formulas (sym (drop-drop (bytes_all (take d (formulas (drop j l)))) j l)) ∙ ih (drop j l) s d w.due ∙ sym w.left_over

-- at a position
pub skip_formulas : (q : List ℕ) (at n : ℕ) → n ≤ length (formulas (drop at q))
    → formulas (drop (at + bytes_all (take n (formulas (drop at q)))) q) ≡ drop n (formulas (drop at q))
skip_formulas q at n h = ap formulas (sym (drop-drop (bytes_all (take n (formulas (drop at q)))) at q)) ∙ skip_by (length (drop at q)) (drop at q) (omega arith) n h

-- ---- the same at a position, with d formulas due

pub record Stepped (q : List ℕ) (i d : ℕ) : Type 0 where
  pub inside : i < length q
  pub fits : i + command_length (get_or q i 0) ≤ length q
  pub onward : 1 ≤ command_length (get_or q i 0)
  pub small : d ≤ length q
  pub due : due_after d (get_or q i 0) ≤ length (formulas (drop (i + command_length (get_or q i 0)) q))
  pub sizes : i + command_length (get_or q i 0) + bytes_all (take (due_after d (get_or q i 0)) (formulas (drop (i + command_length (get_or q i 0)) q)))
      ≡ i + bytes_all (take d (formulas (drop i q)))
  pub letters : (k : ℕ) → fold ANY (occurs k) (take d (formulas (drop i q)))
      ≡ (names (get_or q i 0) (get_or q (i + 1) 0) k || fold ANY (occurs k) (take (due_after d (get_or q i 0)) (formulas (drop (i + command_length (get_or q i 0)) q))))

pub walked_at : (q : List ℕ) (i d : ℕ) → 0 < d → d ≤ length (formulas (drop i q)) → Stepped q i d
walked_at q i zero h k = absurd (omega arith)
walked_at q i (suc m) h k =
    let w = rw (get_or-drop i q 0 0, add-zero i) at (walked (drop i q) m k) in
    let n = command_length (get_or q i 0) in
    let e : drop n (drop i q) ≡ drop (i + n) q = drop-drop n i q in
    record {
      inside = omega (arith, length-drop i q, w.inside, w.onward);
      fits = omega (arith, length-drop i q, w.inside, w.onward);
      onward = w.onward;
      small = omega (arith, length-drop i q, formulas_length (drop i q));
      due = rw e at w.due;
      sizes = omega (arith, rw e at w.sizes);
      letters = λ j. rw (get_or-drop i q 0 0, add-zero i, get_or-drop i q 1 0, e) at (w.letters j);
    }

-- ---- letter by letter

pub reached_first : (q : List ℕ) (i d : ℕ) → 1 ≤ d → d ≤ length (formulas (drop i q)) → Reached q i d i d
reached_first q i d h k = record { onward = omega arith; some = h; due = k; sizes = refl; letters = λ j. refl }

some_after : (e b : ℕ) → 1 ≤ e → eqb b 1 ≡ false → 1 ≤ due_after e b
some_after e b h k = rw k (go (eqb b 2))
  where
    go : (t : Bool) → 1 ≤ choose t e (e + 1)
    go true = h
    go false = omega arith

-- past a letter, with d formulas due from there on: those from i on are this letter's and those behind it
pub record Passed (q : List ℕ) (i d j e : ℕ) : Type 0 where
  pub due : e - 1 ≤ length (formulas (drop (j + 2) q))
  pub sizes : j + 2 + bytes_all (take (e - 1) (formulas (drop (j + 2) q))) ≡ i + bytes_all (take d (formulas (drop i q)))
  pub letters : (k : ℕ) → fold ANY (occurs k) (take d (formulas (drop i q))) ≡ (eqb k (get_or q (j + 1) 0) || fold ANY (occurs k) (take (e - 1) (formulas (drop (j + 2) q))))

module _ {q : List ℕ} {i d j e : ℕ} (a : Reached q i d j e) where
  step : Stepped q j e
  step = walked_at q j e a.some a.due

  pub reached_inside : (j < length q) × (e ≤ length q)
  reached_inside = (step.inside, step.small)

  pub reached_next : (get_or q j 0 ≡ 1 → ⊥) → Reached q i d (j + 1) (due_after e (get_or q j 0))
  reached_next h =
      let z : eqb (get_or q j 0) 1 ≡ false = ne_eqb (get_or q j 0) 1 h in
      let n : command_length (get_or q j 0) ≡ 1 = rw z in
      record {
        onward = omega (arith, a.onward);
        some = some_after e (get_or q j 0) a.some z;
        due = rw n at step.due;
        sizes = (rw n at step.sizes) ∙ a.sizes;
        letters = λ k.
            let o : names (get_or q j 0) (get_or q (j + 1) 0) k ≡ false = rw z in
            sym (rw (n, o) at (step.letters k)) ∙ a.letters k;
      }

  pub passed : get_or q j 0 ≡ 1 → Passed q i d j e
  passed h =
      let n : command_length (get_or q j 0) ≡ 2 = rw h in
      let m : due_after e (get_or q j 0) ≡ e - 1 = rw h in
      record {
        due = rw (n, m) at step.due;
        sizes = (rw (n, m) at step.sizes) ∙ a.sizes;
        letters = λ k. sym (a.letters k) ∙ (rw (n, m, h) at (step.letters k));
      }

-- ---- formulas end within the bytes

inside_by : (k : ℕ) (l : List ℕ) → length l ≤ k → (n : ℕ) → n ≤ length (formulas l) → bytes_all (take n (formulas l)) ≤ length l
inside_by zero l f n h = go n h
  where
    go : (n : ℕ) → n ≤ length (formulas l) → bytes_all (take n (formulas l)) ≤ length l
    go zero h = omega arith
    go (suc n) h = absurd (omega (arith, formulas_length l))
inside_by (suc k) l f n h = go n h (λ l' f' n' h'. inside_by k l' f' n' h')
  where
    go : (n : ℕ) → n ≤ length (formulas l)
        → ((l' : List ℕ) → length l' ≤ k → (n' : ℕ) → n' ≤ length (formulas l') → bytes_all (take n' (formulas l')) ≤ length l')
        → bytes_all (take n (formulas l)) ≤ length l
    go zero h ih = omega arith
    go (suc n) h ih =
        let w = walked l n h in
        let j = command_length (get_or l 0 0) in
        let s : length (drop j l) ≤ k = omega (arith, length-drop j l, w.inside, w.onward) in
        omega (arith, w.sizes, w.inside, length-drop j l, ih (drop j l) s (due_after (suc n) (get_or l 0 0)) w.due)

pub first_bytes : (xs : List Formula) → 1 ≤ length xs → bytes_all (take 1 xs) ≡ bytes (first_of xs)
first_bytes [] h = absurd (omega arith)
first_bytes (x ∷ xs) h = ap length (append-nil (encode x))

pub end_inside : (q : List ℕ) (at : ℕ) → Well q at → end_of q at ≤ length q
end_inside q at h =
    omega (arith, first_bytes (formulas (drop at q)) h, inside_by (length (drop at q)) (drop at q) (omega arith) 1 h, length-drop at q, well_inside q at h)
