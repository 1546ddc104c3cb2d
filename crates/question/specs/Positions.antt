-- The formula at a position of a question's bytes.
use Rattle.std.specs.Prelude.{◌≡◌, ◌||◌, List, [], ◌∷◌, ℕ, ◌+◌, ◌-◌, ◌≤◌, eqb, length, take, drop}
use Rattle.calculus.specs.declared.Part.{Part}
use Rattle.calculus.specs.Fold.{fold, ANY, choose}
use Rattle.calculus.specs.Syntax.{Formula, letter}
use Rattle.calculus.specs.Bytes.{formulas, bytes, bytes_all}
use Rattle.calculus.specs.Truth.{bit}
use Rattle.calculus.specs.States.{occurs}

-- a formula stands there
abbrev pub Well : List ℕ → ℕ → Type 0
Well q at = 1 ≤ length (formulas (drop at q))

abbrev pub first_of : List Formula → Formula
first_of [] = letter 0
first_of (x ∷ xs) = x

abbrev pub formula_at : List ℕ → ℕ → Formula
formula_at q at = first_of (formulas (drop at q))

-- the position behind it
abbrev pub end_of : List ℕ → ℕ → ℕ
end_of q at = at + bytes (formula_at q at)

-- ---- a walk over commands, d formulas being due

-- the formulas due after a command
abbrev pub due_after : ℕ → ℕ → ℕ
due_after d b = choose (eqb b 1) (d - 1) (choose (eqb b 2) d (d + 1))

-- d formulas from position i on, and e from position j on: connectives alone lie between
pub record Reached (q : List ℕ) (i d j e : ℕ) : Type 0 where
  pub onward : i ≤ j
  pub some : 1 ≤ e
  pub due : e ≤ length (formulas (drop j q))
  pub sizes : j + bytes_all (take e (formulas (drop j q))) ≡ i + bytes_all (take d (formulas (drop i q)))
  pub letters : (k : ℕ) → fold ANY (occurs k) (take e (formulas (drop j q))) ≡ fold ANY (occurs k) (take d (formulas (drop i q)))

-- r is a set of letters with those of formulas
abbrev pub Marks : List Formula → ℕ → ℕ → Type 0
Marks xs set r = (k : ℕ) → bit k r ≡ (bit k set || fold ANY (occurs k) xs)

-- the bytes of a part
abbrev pub part_bytes : Part → List ℕ → List ℕ
part_bytes p q = take p.count (drop p.start q)

-- where a part starts, if the question starts at this block and offset of the memory
abbrev pub part_at : Part → ℕ × ℕ → ℕ × ℕ
part_at p at = (at.0, p.start + at.1)
