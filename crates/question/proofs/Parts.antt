-- The formula at a position by its first byte: a letter, or a compound with its parts, and where they stand.
-- Assumes nothing.
use mathlib.Core.Path.{◌≡◌, refl, sym, ap, ◌∙◌}
use mathlib.Core.Option.{Option, none, some}
use mathlib.Core.List.{List, [], ◌∷◌}
use Prim.Native.Nat.{ℕ, zero, suc, ◌+◌, ◌-◌, ◌≤◌, ◌<◌}
use native.Mathlib.Nat.{add-zero}
use native.Mathlib.Omega.{arith}
use lib.ListN.{length, take, drop, get_or, length-append, length-drop}
use lib.Seq.{drop-drop, get_or-drop}
use Rattle.calculus.specs.Syntax.{Binary, AND, OR, IMPLIES, EQUIV, Connective, NOT, two, Formula, letter, neg, join, Compound, whole, compound}
use Rattle.calculus.specs.Bytes.{Command, SIDE, LETTER, CONNECTIVE, code, command, encode, formulas, bytes}
use Rattle.calculus.proofs.Spelling.{command_byte}
use Rattle.question.specs.Positions.{Well, first_of, formula_at, end_of}
use Rattle.question.proofs.Readers.{connective_range}
use Rattle.question.proofs.Walks.{skip_formulas, first_bytes}

-- ---- the first formula that bytes spell

data First (l : List ℕ) : Type 0 where
  of_letter : get_or l 0 0 ≡ code LETTER → formulas l ≡ letter (get_or l 1 0) ∷ formulas (drop 2 l) → First l
  of_not : (x : Formula) (xs : List Formula) → get_or l 0 0 ≡ code (CONNECTIVE NOT) → formulas (drop 1 l) ≡ x ∷ xs → formulas l ≡ neg x ∷ xs
      → First l
  of_two : (o : Binary) (x y : Formula) (xs : List Formula) → get_or l 0 0 ≡ code (CONNECTIVE (two o)) → formulas (drop 1 l) ≡ x ∷ y ∷ xs
      → formulas l ≡ join o x y ∷ xs
      → First l

first : (l : List ℕ) → 1 ≤ length (formulas l) → First l
first [] h = absurd (omega arith)
first (b ∷ []) h = absurd (omega arith)
first (b ∷ k ∷ bs) h = go (command b) refl
  where
    after : (c : Connective) → command b ≡ some (CONNECTIVE c) → (xs : List Formula) → formulas (k ∷ bs) ≡ xs → First (b ∷ k ∷ bs)
    after NOT e [] f = let g : formulas (b ∷ k ∷ bs) ≡ [] = rw (e, f) in absurd (omega (arith, ap length g))
    after (two o) e [] f = let g : formulas (b ∷ k ∷ bs) ≡ [] = rw (e, f) in absurd (omega (arith, ap length g))
    after (two o) e (x ∷ []) f = let g : formulas (b ∷ k ∷ bs) ≡ [] = rw (e, f) in absurd (omega (arith, ap length g))
    after NOT e (x ∷ xs) f = of_not x xs (sym (command_byte b (CONNECTIVE NOT) e)) f (rw (e, f))
    after (two o) e (x ∷ y ∷ xs) f = of_two o x y xs (sym (command_byte b (CONNECTIVE (two o)) e)) f (rw (e, f))

    go : (o : Option Command) → command b ≡ o → First (b ∷ k ∷ bs)
    go none e = let g : formulas (b ∷ k ∷ bs) ≡ [] = rw e in absurd (omega (arith, ap length g))
    go (some (SIDE s)) e = let g : formulas (b ∷ k ∷ bs) ≡ [] = rw e in absurd (omega (arith, ap length g))
    go (some LETTER) e = of_letter (sym (command_byte b LETTER e)) (rw e)
    go (some (CONNECTIVE c)) e = after c e (formulas (k ∷ bs)) refl

-- ---- at a position

pub record LetterAt (q : List ℕ) (p : ℕ) : Type 0 where
  pub byte : get_or q p 0 ≡ code LETTER
  pub stands : formula_at q p ≡ letter (get_or q (p + 1) 0)
  pub ends : end_of q p ≡ p + 2

-- what stands behind the first part: nothing under NOT, whose one part stands for both, else the second part
pub record NotBehind (q : List ℕ) (p : ℕ) (f g : Formula) : Type 0 where
  pub same : g ≡ f
  pub ends : end_of q (p + 1) ≡ end_of q p

pub record SecondAt (q : List ℕ) (p : ℕ) (g : Formula) : Type 0 where
  pub well : Well q (end_of q (p + 1))
  pub stands : formula_at q (end_of q (p + 1)) ≡ g
  pub ends : end_of q (end_of q (p + 1)) ≡ end_of q p

abbrev pub Behind : List ℕ → ℕ → Connective → Formula → Formula → Type 0
Behind q p NOT f g = NotBehind q p f g
Behind q p (two o) f g = SecondAt q p g

pub record PartsAt (q : List ℕ) (p : ℕ) (x : Compound) : Type 0 where
  pub byte : get_or q p 0 ≡ code (CONNECTIVE x.connective)
  pub stands : formula_at q p ≡ whole x
  pub first_well : Well q (p + 1)
  pub first : formula_at q (p + 1) ≡ x.f
  pub behind : Behind q p x.connective x.f x.g

-- a formula's first byte is a letter's or a connective's
pub data At (q : List ℕ) (p : ℕ) : Type 0 where
  a_letter : LetterAt q p → At q p
  a_compound : (x : Compound) → PartsAt q p x → At q p

-- the formulas behind the one at a position
pub next_formulas : (q : List ℕ) (p : ℕ) → Well q p → formulas (drop (end_of q p) q) ≡ drop 1 (formulas (drop p q))
next_formulas q p h = rw (first_bytes (formulas (drop p q)) h) at (skip_formulas q p 1 h)

pub at_position : (q : List ℕ) (p : ℕ) → Well q p → At q p
at_position q p h = go (first (drop p q) h)
  where
    byte : get_or (drop p q) 0 0 ≡ get_or q p 0
    byte = rw (get_or-drop p q 0 0, add-zero p)

    second : (b : Binary) (x y : Formula) (xs : List Formula) → formulas (drop p q) ≡ join b x y ∷ xs → formulas (drop (p + 1) q) ≡ x ∷ y ∷ xs → SecondAt q p y
    second b x y xs g f =
        let w : Well q (p + 1) = rw f (omega arith) in
        let m : formulas (drop (end_of q (p + 1)) q) ≡ y ∷ xs = next_formulas q (p + 1) w ∙ ap (drop 1) f in
        let i : end_of q (p + 1) ≡ p + 1 + bytes x = rw f in
        let j : end_of q (end_of q (p + 1)) ≡ end_of q (p + 1) + bytes y = rw m in
        let k : end_of q p ≡ p + bytes (join b x y) = rw g in
        record { well = rw m (omega arith); stands = rw m; ends = omega (arith, length-append (encode x) (encode y)) }

    go : First (drop p q) → At q p
    go (of_letter b e) =
        let g : formulas (drop p q) ≡ letter (get_or q (p + 1) 0) ∷ formulas (drop 2 (drop p q)) = rw (get_or-drop p q 1 0) at e in
        a_letter (record { byte = sym byte ∙ b; stands = rw g; ends = rw g })
    go (of_not x xs b e g) =
        let f : formulas (drop (p + 1) q) ≡ x ∷ xs = rw (drop-drop 1 p q) at e in
        a_compound (record { connective = NOT; f = x; g = x })
        (record { byte = sym byte ∙ b; stands = rw g; first_well = rw f (omega arith); first = rw f; behind = record { same = refl; ends = rw (g, f) (omega arith) } })
    go (of_two o x y xs b e g) =
        let f : formulas (drop (p + 1) q) ≡ x ∷ y ∷ xs = rw (drop-drop 1 p q) at e in
        a_compound (record { connective = two o; f = x; g = y })
        (record { byte = sym byte ∙ b; stands = rw g; first_well = rw f (omega arith); first = rw f; behind = second o x y xs g f })

-- ---- by the code's tests of the byte

module _ (q : List ℕ) (p : ℕ) (h : Well q p) where
  pub letter_at : (2 ≤ get_or q p 0 → 6 < get_or q p 0) → LetterAt q p
  letter_at l = go (at_position q p h)
    where
      go : At q p → LetterAt q p
      go (a_letter a) = a
      go (a_compound x a) = let r = connective_range x.connective in absurd (omega (arith, l (omega (arith, a.byte)), a.byte))

  pub compound_at_lem : 2 ≤ get_or q p 0 → (x : Compound) × PartsAt q p x
  compound_at_lem l = go (at_position q p h)
    where
      go : At q p → (x : Compound) × PartsAt q p x
      go (a_letter a) = absurd (omega (arith, a.byte))
      go (a_compound x a) = (x, a)

-- a connective, by its command: a binary one is 3 or more, NOT is 2
two_range : (o : Binary) → 3 ≤ code (CONNECTIVE (two o))
two_range AND = omega arith
two_range OR = omega arith
two_range IMPLIES = omega arith
two_range EQUIV = omega arith

pub is_not : (k : Connective) → code (CONNECTIVE k) ≡ 2 → k ≡ NOT
is_not NOT e = refl
is_not (two o) e = absurd (omega (arith, two_range o))

pub is_two : (k : Connective) → (code (CONNECTIVE k) ≡ 2 → ⊥) → (o : Binary) × (k ≡ two o)
is_two NOT n = absurd (n refl)
is_two (two o) n = (o, refl)

-- ---- a compound by the positions of its parts

pub record FirstAt (q : List ℕ) (p : ℕ) : Type 0 where
  pub connective : Connective
  pub second : Formula
  pub well : Well q (p + 1)
  pub stands : formula_at q p ≡ compound connective (formula_at q (p + 1)) second

pub record NotAt (q : List ℕ) (p : ℕ) : Type 0 where
  pub stands : formula_at q p ≡ neg (formula_at q (p + 1))
  pub ends : end_of q p ≡ end_of q (p + 1)

pub record TwoAt (q : List ℕ) (p : ℕ) : Type 0 where
  pub o : Binary
  pub byte : get_or q p 0 ≡ code (CONNECTIVE (two o))
  pub well : Well q (end_of q (p + 1))
  pub stands : formula_at q p ≡ join o (formula_at q (p + 1)) (formula_at q (end_of q (p + 1)))
  pub ends : end_of q p ≡ end_of q (end_of q (p + 1))

module _ (q : List ℕ) (p : ℕ) (h : Well q p) (l : 2 ≤ get_or q p 0) where
  pub first_at : FirstAt q p
  first_at =
      let x = (compound_at_lem q p h l).0 in
      let a = (compound_at_lem q p h l).1 in
      record { connective = x.connective; second = x.g; well = a.first_well; stands = rw a.first a.stands }

  pub not_at : get_or q p 0 ≡ 2 → NotAt q p
  not_at e =
      let x = (compound_at_lem q p h l).0 in
      let a = (compound_at_lem q p h l).1 in
      let k : x.connective ≡ NOT = is_not x.connective (sym a.byte ∙ e) in
      let b : NotBehind q p x.f x.g = rw k at a.behind in
      let s : formula_at q p ≡ neg x.f = rw k at a.stands in
      record { stands = rw a.first s; ends = sym b.ends }

  pub two_at : (get_or q p 0 ≡ 2 → ⊥) → TwoAt q p
  two_at n =
      let x = (compound_at_lem q p h l).0 in
      let a = (compound_at_lem q p h l).1 in
      let t = is_two x.connective (λ e. n (a.byte ∙ e)) in
      let b : SecondAt q p x.g = rw t.1 at a.behind in
      let s : formula_at q p ≡ join t.0 x.f x.g = rw t.1 at a.stands in
      record { o = t.0; byte = rw t.1 at a.byte; well = b.well; stands = rw (b.stands, a.first) s; ends = sym b.ends }

-- ---- where d formulas are due: the next one, and those behind it

pub record NextDue (q : List ℕ) (p d : ℕ) : Type 0 where
  pub well : Well q p
  pub split : take d (formulas (drop p q)) ≡ formula_at q p ∷ take (d - 1) (formulas (drop (end_of q p) q))
  pub due : d - 1 ≤ length (formulas (drop (end_of q p) q))

take_first : (xs : List Formula) (d : ℕ) → 0 < d → d ≤ length xs → take d xs ≡ first_of xs ∷ take (d - 1) (drop 1 xs)
take_first [] d h k = absurd (omega arith)
take_first (x ∷ xs) zero h k = absurd (omega arith)
take_first (x ∷ xs) (suc m) h k = let e : suc m - 1 ≡ m = omega arith in rw e

pub next_due : (q : List ℕ) (p d : ℕ) → 0 < d → d ≤ length (formulas (drop p q)) → NextDue q p d
next_due q p d h k =
    let l : Well q p = omega arith in
    let n = next_formulas q p l in
    record {
      well = l;
      split = take_first (formulas (drop p q)) d h k ∙ rw n;
      due = rw n (omega (arith, length-drop 1 (formulas (drop p q))));
    }

-- a formula has two bytes at least
pub bytes_two : (x : Formula) → 2 ≤ bytes x
bytes_two (letter k) = omega arith
bytes_two (neg x) = omega (arith, bytes_two x)
bytes_two (join b x y) = omega (arith, bytes_two x, length-append (encode x) (encode y))

pub end_onward : (q : List ℕ) (p : ℕ) → p + 2 ≤ end_of q p
end_onward q p = omega (arith, bytes_two (formula_at q p))
