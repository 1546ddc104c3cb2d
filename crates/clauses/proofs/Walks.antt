-- A command of the walk: what will be gathered stays the same.
-- Assumes nothing.
use mathlib.Core.Path.{◌≡◌, refl, sym, ap, ap₂, ◌∙◌}
use mathlib.Core.Option as Math
use mathlib.Core.Option.{none, some}
use mathlib.Core.List.{List, [], ◌∷◌, ◌++◌, append_assoc}
use Prim.Native.Nat.{ℕ, ◌+◌, ◌-◌, ◌≤◌, ◌<◌}
use native.Mathlib.Nat.{add-zero}
use native.Mathlib.Omega.{arith}
use lib.ListN.{length, take, drop, get_or, length-append}
use Rattle.std.specs.Prelude.{Some, None}
use Rattle.calculus.specs.Fold.{Each}
use Rattle.calculus.specs.Limits.{LETTERS}
use Rattle.calculus.specs.Syntax.{Binary, AND, OR, IMPLIES, EQUIV, Connective, NOT, two, Formula, letter, neg, join, compound}
use Rattle.calculus.specs.Bytes.{CONNECTIVE, code, encode, encode_all, formulas, bytes, bytes_all, Lettered}
use Rattle.calculus.specs.Tree.{light}
use Rattle.calculus.specs.Clauses.{Clause, both, not_of, clause_of, light_all}
use Rattle.calculus.proofs.Rounds.{light_all_append}
use Rattle.question.specs.Positions.{Well, formula_at, end_of}
use Rattle.question.proofs.Walks.{well_inside, walked_at}
use Rattle.question.proofs.Parts.{LetterAt, NotAt, TwoAt, At, a_letter, a_compound, at_position, letter_at, first_at, not_at, two_at, NextDue, next_due}
use Rattle.clauses.specs.declared.Gathered.{Gathered}
use Rattle.clauses.specs.Walks.{clause_all, with_clause, ahead, total, Within, Onward}

-- ---- clauses joined

both_assoc : (a b c : Math.Option Clause) → both a (both b c) ≡ both (both a b) c
both_assoc none b c = refl
both_assoc (some a) none c = refl
both_assoc (some a) (some b) none = refl
both_assoc (some a) (some b) (some c) =
    ap some (λ i. record { negative = sym (append_assoc a.negative b.negative c.negative) i; positive = sym (append_assoc a.positive b.positive c.positive) i })

-- NOT of what is no letter
not_letter : (q : List ℕ) (p : ℕ) → Well q p → (get_or q p 0 ≡ 1 → ⊥) → not_of (formula_at q p) ≡ none
not_letter q p h n = go (at_position q p h)
  where
    of_compound : (k : Connective) (x y : Formula) → not_of (compound k x y) ≡ none
    of_compound NOT x y = refl
    of_compound (two o) x y = refl

    go : At q p → not_of (formula_at q p) ≡ none
    go (a_letter a) = absurd (n a.byte)
    go (a_compound x a) = rw a.stands (of_compound x.connective x.f x.g)

letter_here : (q : List ℕ) (p : ℕ) → Well q p → get_or q p 0 ≡ 1 → LetterAt q p
letter_here q p h e = letter_at q p h (λ l. absurd (omega (arith, e, l)))

-- ---- a command

module _ (q : List ℕ) (g : Gathered) (w : Within q g) (d : 1 ≤ g.due) where
  now : NextDue q g.at g.due
  now = next_due q g.at g.due d w.enough

  pub inside_now : g.at + 1 < length q
  inside_now = well_inside q g.at now.well

  pub due_small : g.due ≤ length q
  due_small = (walked_at q g.at g.due d w.enough).small

  ahead_now : (x : Formula) (e : ℕ) → formula_at q g.at ≡ x → end_of q g.at ≡ e → ahead q g ≡ x ∷ take (g.due - 1) (formulas (drop e q))
  ahead_now x e s t = now.split ∙ ap₂ (λ (y : Formula) (n : ℕ). y ∷ take (g.due - 1) (formulas (drop n q))) s t

  lettered_now : (x : Formula) (e : ℕ) → formula_at q g.at ≡ x → end_of q g.at ≡ e → Each Lettered (x ∷ take (g.due - 1) (formulas (drop e q)))
  lettered_now x e s t = rw (ahead_now x e s t) at w.lettered

  -- what is no clause
  other_step : clause_of (formula_at q g.at) ≡ none → None ≡ total q g
  other_step e =
      let o : clause_all (ahead q g) ≡ none = ap clause_all now.split ∙ ap (λ (o : Math.Option Clause). both o (clause_all (take (g.due - 1) (formulas (drop (end_of q g.at) q))))) e in
      sym (ap (λ (c : Math.Option Clause). with_clause g c (bytes_all (ahead q g))) o)

  -- a clause of one letter, which ends at e
  module _ (x : Formula) (us ps : List ℕ) (n e : ℕ) (s : formula_at q g.at ≡ x) (t : end_of q g.at ≡ e) (at : e ≡ g.at + bytes x)
      (k : clause_of x ≡ some (record { negative = us; positive = ps })) (i : n ≡ g.count + length ps) (small : n ≤ e) (on : g.at < e) where
    literal_step : let h : Gathered = record { masks = record { negative = light_all us g.masks.negative; positive = light_all ps g.masks.positive }; count = n; at = e; due = g.due - 1 } in
        (total q h ≡ total q g) × Onward q g.at (Some h)
    literal_step = (same, (record { enough = rw t at now.due; lettered = (lettered_now x e s t).1; counted = small }, on))
      where
        ys : List Formula
        ys = take (g.due - 1) (formulas (drop e q))

        go : (o : Math.Option Clause) → with_clause (record { masks = record { negative = light_all us g.masks.negative; positive = light_all ps g.masks.positive }; count = n; at = e; due = g.due - 1 }) o (bytes_all ys)
            ≡ with_clause g (both (some (record { negative = us; positive = ps })) o) (bytes_all (x ∷ ys))
        go none = refl
        go (some c) =
            let m : n + length c.positive ≡ g.count + length (ps ++ c.positive) = omega (arith, i, length-append ps c.positive) in
            let f : e + bytes_all ys ≡ g.at + bytes_all (x ∷ ys) = omega (arith, at, length-append (encode x) (encode_all ys)) in
            ap Some (λ j. record { masks = record { negative = sym (light_all_append us c.negative g.masks.negative) j; positive = sym (light_all_append ps c.positive g.masks.positive) j }; count = m j; at = f j; due = 0 })

        same : with_clause (record { masks = record { negative = light_all us g.masks.negative; positive = light_all ps g.masks.positive }; count = n; at = e; due = g.due - 1 }) (clause_all ys) (bytes_all ys) ≡ total q g
        same =
            go (clause_all ys) ∙ ap (λ (o : Math.Option Clause). with_clause g (both o (clause_all ys)) (bytes_all (x ∷ ys))) (sym k)
            ∙ ap (λ (xs : List Formula). with_clause g (clause_all xs) (bytes_all xs)) (sym (ahead_now x e s t))

  -- a letter without NOT
  module _ (e : get_or q g.at 0 ≡ 1) where
    letter_now : LetterAt q g.at
    letter_now = letter_here q g.at now.well e

    pub letter_below : get_or q (g.at + 1) 0 < LETTERS
    letter_below = (lettered_now (letter (get_or q (g.at + 1) 0)) (end_of q g.at) letter_now.stands refl).0

    pub letter_step : (p : ℕ) → p ≡ light (get_or q (g.at + 1) 0) g.masks.positive →
        let h : Gathered = record { masks = record { negative = g.masks.negative; positive = p }; count = g.count + 1; at = g.at + 2; due = g.due - 1 } in
        (total q h ≡ total q g) × Onward q g.at (Some h)
    letter_step p f =
        let k = get_or q (g.at + 1) 0 in
        rw f (literal_step (letter k) [] (k ∷ []) (g.count + 1) (g.at + 2) letter_now.stands letter_now.ends refl refl refl (omega (arith, w.counted)) (omega arith))

  -- NOT
  module _ (e : get_or q g.at 0 ≡ 2) where
    negated_now : NotAt q g.at
    negated_now = not_at q g.at now.well (omega (arith, e)) e

    part_well : Well q (g.at + 1)
    part_well = (first_at q g.at now.well (omega (arith, e))).well

    pub negated_other : (get_or q (g.at + 1) 0 ≡ 1 → ⊥) → None ≡ total q g
    negated_other t = other_step (ap clause_of negated_now.stands ∙ not_letter q (g.at + 1) part_well t)

    -- of a letter
    module _ (t : get_or q (g.at + 1) 0 ≡ 1) where
      part_letter : LetterAt q (g.at + 1)
      part_letter = letter_here q (g.at + 1) part_well t

      negated_formula : formula_at q g.at ≡ neg (letter (get_or q (g.at + 2) 0))
      negated_formula =
          let i : g.at + 1 + 1 ≡ g.at + 2 = omega arith in
          negated_now.stands ∙ ap neg part_letter.stands ∙ ap (λ (n : ℕ). neg (letter (get_or q n 0))) i

      pub negated_inside : g.at + 2 < length q
      negated_inside = omega (arith, well_inside q (g.at + 1) part_well)

      pub negated_below : get_or q (g.at + 2) 0 < LETTERS
      negated_below = (lettered_now (neg (letter (get_or q (g.at + 2) 0))) (end_of q g.at) negated_formula refl).0

      pub negated_step : (u : ℕ) → u ≡ light (get_or q (g.at + 2) 0) g.masks.negative →
          let h : Gathered = record { masks = record { negative = u; positive = g.masks.positive }; count = g.count; at = g.at + 3; due = g.due - 1 } in
          (total q h ≡ total q g) × Onward q g.at (Some h)
      negated_step u f =
          let k = get_or q (g.at + 2) 0 in
          let n : end_of q g.at ≡ g.at + 3 = omega (arith, negated_now.ends, part_letter.ends) in
          rw f (literal_step (neg (letter k)) (k ∷ []) [] g.count (g.at + 3) negated_formula n refl refl (omega arith) (omega (arith, w.counted)) (omega arith))

  -- a binary connective that is not OR
  pub binary_other : (get_or q g.at 0 ≡ 1 → ⊥) → (get_or q g.at 0 ≡ 2 → ⊥) → (get_or q g.at 0 ≡ 4 → ⊥) → None ≡ total q g
  binary_other a b c = go (at_position q g.at now.well)
    where
      of : (k : Connective) (x y : Formula) → get_or q g.at 0 ≡ code (CONNECTIVE k) → clause_of (compound k x y) ≡ none
      of NOT x y e = absurd (b e)
      of (two AND) x y e = refl
      of (two OR) x y e = absurd (c e)
      of (two IMPLIES) x y e = refl
      of (two EQUIV) x y e = refl

      go : At q g.at → None ≡ total q g
      go (a_letter l) = absurd (a l.byte)
      go (a_compound x l) = other_step (ap clause_of l.stands ∙ of x.connective x.f x.g l.byte)

  -- OR
  module _ (e : get_or q g.at 0 ≡ 4) where
    joined_now : TwoAt q g.at
    joined_now = two_at q g.at now.well (omega (arith, e)) (λ n. omega (arith, e, n))

    is_or : (o : Binary) → 4 ≡ code (CONNECTIVE (two o)) → o ≡ OR
    is_or AND e = absurd (omega arith)
    is_or OR e = refl
    is_or IMPLIES e = absurd (omega arith)
    is_or EQUIV e = absurd (omega arith)

    joined_enough : g.due + 1 ≤ length (formulas (drop (g.at + 1) q))
    joined_enough = rw e at (walked_at q g.at g.due d w.enough).due

    -- its parts are due in its place
    parts_ahead : take (g.due + 1) (formulas (drop (g.at + 1) q))
        ≡ formula_at q (g.at + 1) ∷ formula_at q (end_of q (g.at + 1)) ∷ take (g.due - 1) (formulas (drop (end_of q g.at) q))
    parts_ahead =
        let x = next_due q (g.at + 1) (g.due + 1) (omega arith) joined_enough in
        let i : g.due + 1 - 1 ≡ g.due = omega arith in
        let y = next_due q (end_of q (g.at + 1)) g.due d (rw i at x.due) in
        x.split ∙ ap (λ (n : ℕ). formula_at q (g.at + 1) ∷ take n (formulas (drop (end_of q (g.at + 1)) q))) i
        ∙ ap (λ (xs : List Formula). formula_at q (g.at + 1) ∷ xs) (y.split ∙ ap (λ (n : ℕ). formula_at q (end_of q (g.at + 1)) ∷ take (g.due - 1) (formulas (drop n q))) (sym joined_now.ends))

    pub joined_step : let h : Gathered = record { masks = g.masks; count = g.count; at = g.at + 1; due = g.due + 1 } in
        (total q h ≡ total q g) × Onward q g.at (Some h)
    joined_step = (same, (record { enough = joined_enough; lettered = rw parts_ahead (lettered.0.0, (lettered.0.1, lettered.1)); counted = omega (arith, w.counted) }, omega arith))
      where
        x : Formula
        x = formula_at q (g.at + 1)

        y : Formula
        y = formula_at q (end_of q (g.at + 1))

        ys : List Formula
        ys = take (g.due - 1) (formulas (drop (end_of q g.at) q))

        stands : formula_at q g.at ≡ join OR x y
        stands = joined_now.stands ∙ ap (λ (o : Binary). join o x y) (is_or joined_now.o (sym e ∙ joined_now.byte))

        lettered : Each Lettered (join OR x y ∷ ys)
        lettered = lettered_now (join OR x y) (end_of q g.at) stands refl

        go : (o : Math.Option Clause) (m n : ℕ) → g.at + 1 + m ≡ g.at + n
            → with_clause (record { masks = g.masks; count = g.count; at = g.at + 1; due = g.due + 1 }) o m ≡ with_clause g o n
        go none m n i = refl
        go (some c) m n i = ap Some (λ j. record { masks = record { negative = light_all c.negative g.masks.negative; positive = light_all c.positive g.masks.positive }; count = g.count + length c.positive; at = i j; due = 0 })

        same : with_clause (record { masks = g.masks; count = g.count; at = g.at + 1; due = g.due + 1 }) (clause_all (take (g.due + 1) (formulas (drop (g.at + 1) q)))) (bytes_all (take (g.due + 1) (formulas (drop (g.at + 1) q))))
            ≡ total q g
        same =
            ap (λ (xs : List Formula). with_clause (record { masks = g.masks; count = g.count; at = g.at + 1; due = g.due + 1 }) (clause_all xs) (bytes_all xs)) parts_ahead
            ∙ go (clause_all (x ∷ y ∷ ys)) (bytes_all (x ∷ y ∷ ys)) (bytes_all (join OR x y ∷ ys))
            (omega (arith, length-append (encode x) (encode y ++ encode_all ys), length-append (encode y) (encode_all ys), length-append (encode x) (encode y), length-append (encode x ++ encode y) (encode_all ys)))
            ∙ ap (λ (o : Math.Option Clause). with_clause g o (bytes_all (join OR x y ∷ ys))) (both_assoc (clause_of x) (clause_of y) (clause_all ys))
            ∙ ap (λ (xs : List Formula). with_clause g (clause_all xs) (bytes_all xs)) (sym (ahead_now (join OR x y) (end_of q g.at) stands refl))

-- none is due
pub gathered_all : (q : List ℕ) (g : Gathered) → g.due ≡ 0 → Some g ≡ total q g
gathered_all q g e = rw e (ap Some (λ j. record { masks = g.masks; count = sym (add-zero g.count) j; at = sym (add-zero g.at) j; due = 0 }))
