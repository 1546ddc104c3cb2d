-- A formula's walk from those of its parts, and its bounds.
-- Assumes nothing.
use mathlib.Core.Path.{◌≡◌, refl, sym, fun_ext, ◌∙◌}
use mathlib.Core.List.{List}
use Prim.Native.Nat.{ℕ, suc, ◌+◌, ◌≤◌}
use native.Mathlib.Numerals.{add-one}
use native.Mathlib.Nat.{le_trans}
use native.Mathlib.Omega.{arith}
use lib.Pow.{pow_mono}
use lib.ListN.{get_or}
use Rattle.calculus.specs.declared.Side.{Side}
use Rattle.calculus.specs.declared.Side.TheVariants.{Left, Right}
use Rattle.calculus.specs.declared.Pair.{Pair}
use Rattle.calculus.specs.Limits.{CONNECTIVES}
use Rattle.calculus.specs.Syntax.{side_of, Binary, Connective, NOT, two, Formula, letter, neg, join, compound, connectives}
use Rattle.calculus.specs.Width.{width}
use Rattle.calculus.specs.Bytes.{CONNECTIVE, code}
use Rattle.calculus.proofs.Bounds.{width_le}
use Rattle.calculus.proofs.Spelling.{code_injective}
use Rattle.question.specs.Positions.{Well, formula_at, end_of}
use Rattle.question.proofs.Connectives.{binary_range}
use Rattle.question.proofs.Readers.{connective_range}
use Rattle.question.proofs.Parts.{LetterAt, FirstAt, NotAt, TwoAt, letter_at, first_at, not_at, two_at}
use Rattle.question.specs.declared.connective.Binary.{Binary as Joins}
use Rattle.question.specs.declared.connective.Binary.TheVariants.{And, Or, Implies, Equiv}
use Rattle.question.specs.declared.connective.Connective.{Connective as Named}
use Rattle.question.specs.declared.connective.Connective.TheVariants.{Not, Two}
use Rattle.question.specs.Connectives.{binary_of, connective_of, command_of}
use Rattle.width.specs.declared.Walked.{Walked}
use Rattle.width.specs.Walks.{exchanged, joined, Fit, pair_of, walk_of}

-- ---- the pair of a joined formula

pub side_width : (s : Side) (x : Formula) → side_of (pair_of x) s ≡ width s x
side_width Left x = refl
side_width Right x = refl

sides : (x : Formula) → side_of (pair_of x) ≡ (λ s. width s x)
sides x = fun_ext (λ s. side_width s x)

join_pair : (o : Binary) (x y : Formula) → joined o (pair_of x) (pair_of y) ≡ pair_of (join o x y)
join_pair o x y = rw (sides x, sides y)

-- the parts of a binary connective at a position leave room for it
abbrev pub Room : List ℕ → ℕ → Type 0
Room q p = suc (connectives (formula_at q (p + 1)) + connectives (formula_at q (end_of q (p + 1)))) ≤ CONNECTIVES

pub fit : (q : List ℕ) (p : ℕ) → Room q p → Fit (walk_of q (p + 1)).value (walk_of q (end_of q (p + 1))).value
fit q p h o s =
    let x = formula_at q (p + 1) in
    let y = formula_at q (end_of q (p + 1)) in
    rw (sides x, sides y) (le_trans (width_le s (join o x y)) (pow_mono {j = CONNECTIVES} h))

-- ---- by the connective whose command the byte is

-- the byte tells the connective
pub told : (o p : Binary) → code (CONNECTIVE (two o)) ≡ code (CONNECTIVE (two p)) → o ≡ p
told o p e = cc (code_injective (CONNECTIVE (two o)) (CONNECTIVE (two p)) e)

module _ (q : List ℕ) (p : ℕ) (w : Well q p) where
  pub no_command : ((k : Named) → get_or q p 0 ≡ command_of k → ⊥) → LetterAt q p
  no_command n = letter_at q p w (λ l. omega (arith, n Not, n (Two And), n (Two Or), n (Two Implies), n (Two Equiv)))

  pub first_part : (k : Named) → get_or q p 0 ≡ command_of k → FirstAt q p
  first_part k e = first_at q p w (omega (arith, e, connective_range (connective_of k)))

  pub not_part : (k : Named) → k ≡ Not → get_or q p 0 ≡ command_of k → NotAt q p
  not_part k i e = let b : get_or q p 0 ≡ 2 = rw i at e in not_at q p w (omega arith) b

  pub two_parts : (k : Named) (o : Joins) → k ≡ Two o → get_or q p 0 ≡ command_of k → (a : TwoAt q p) × (a.o ≡ binary_of o)
  two_parts k o i e =
      let b : get_or q p 0 ≡ code (CONNECTIVE (two (binary_of o))) = rw i at e in
      let a = two_at q p w (omega (arith, b, binary_range o)) (λ z. omega (arith, b, binary_range o)) in
      (a, told a.o (binary_of o) (sym a.byte ∙ b))

-- ---- by the formula that stands at a position

-- a formula known, with the position behind it
walk : (q : List ℕ) (p : ℕ) (x : Formula) (e : ℕ) → formula_at q p ≡ x → end_of q p ≡ e
    → record { value = pair_of x; connectives = connectives x; end = e } ≡ walk_of q p
walk q p x e s t = λ i. record { value = pair_of (sym s i); connectives = connectives (sym s i); end = sym t i }

pub walk_letter : (q : List ℕ) (p : ℕ) → LetterAt q p
    → record { value = record { left = 1; right = 1 }; connectives = 0; end = p + 2 } ≡ walk_of q p
walk_letter q p a = walk q p (letter (get_or q (p + 1) 0)) (p + 2) a.stands a.ends

compound_less : (k : Connective) (x y : Formula) → suc (connectives x) ≤ connectives (compound k x y)
compound_less NOT x y = omega arith
compound_less (two o) x y = omega arith

pub first_less : (q : List ℕ) (p : ℕ) → FirstAt q p → suc (connectives (formula_at q (p + 1))) ≤ connectives (formula_at q p)
first_less q p a = rw a.stands (compound_less a.connective (formula_at q (p + 1)) a.second)

-- "NOT exchanges the pair"
pub walk_not : (q : List ℕ) (p : ℕ) → NotAt q p → (w : Walked (Pair ℕ)) → w ≡ walk_of q (p + 1)
    → record { value = exchanged w.value; connectives = w.connectives + 1; end = w.end } ≡ walk_of q p
walk_not q p a w e = rw (e, add-one (connectives (formula_at q (p + 1)))) (walk q p (neg (formula_at q (p + 1))) (end_of q (p + 1)) a.stands a.ends)

pub walk_two : (q : List ℕ) (p : ℕ) (a : TwoAt q p) (v w : Walked (Pair ℕ)) (j : Pair ℕ) → v ≡ walk_of q (p + 1) → w ≡ walk_of q v.end
    → j ≡ joined a.o v.value w.value
    → record { value = j; connectives = v.connectives + w.connectives + 1; end = w.end } ≡ walk_of q p
walk_two q p a v w j e f h =
    rw (h, f, e, add-one (connectives (formula_at q (p + 1)) + connectives (formula_at q (end_of q (p + 1)))), join_pair)
    (walk q p (join a.o (formula_at q (p + 1)) (formula_at q (end_of q (p + 1)))) (end_of q (end_of q (p + 1))) a.stands a.ends)
