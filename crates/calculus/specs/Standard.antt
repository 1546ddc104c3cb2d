-- "One spelling for the same question" (document 02, e): bytes compared, formulas arranged by them, and the standard spelling.
use Rattle.std.specs.Prelude.{◌≡◌, Bool, true, ◌↔◌, List, [], ◌∷◌, ℕ}
use Rattle.std.specs.declared.cmp.Ordering.{Ordering}
use Rattle.std.specs.declared.cmp.Ordering.TheVariants.{Less, Equal, Greater}
use Rattle.std.specs.Ordering.{nat_cmp}
use Rattle.std.specs.Cmp.Lexicographic.{slice_cmp}
use Rattle.calculus.specs.declared.Side.{Side}
use Rattle.calculus.specs.Fold.{fold, ANY, Each}
use Rattle.calculus.specs.Syntax.{Formula, Sequent, on_side}
use Rattle.calculus.specs.Bytes.{encode, same, encode_sequent}

-- "bytes compared from the first"; where one ends and the other goes on, it is less
abbrev pub compare : List ℕ → List ℕ → Ordering
compare = slice_cmp nat_cmp

-- x as it stands to y, the first of a list: before it, left out because it is there, or among the rest
abbrev pub place : {X : Type 0} → Ordering → X → X → List X → List X → List X
place Less x y ys rest = x ∷ y ∷ ys
place Equal x y ys rest = y ∷ ys
place Greater x y ys rest = y ∷ rest

-- x in its place in a list that ascends by the bytes of its elements
abbrev pub insert : {X : Type 0} → (X → List ℕ) → X → List X → List X
insert spelt x [] = x ∷ []
insert spelt x (y ∷ ys) = place (compare (spelt x) (spelt y)) x y ys (insert spelt x ys)

-- "the formulas ascend by bytes compared from the first, and equal ones are written once"
abbrev pub arranged : List Formula → List Formula
arranged [] = []
arranged (x ∷ xs) = insert encode x (arranged xs)

-- a question with each side so arranged
abbrev pub standard : Sequent → Sequent
standard S = record { on_left = arranged S.on_left; on_right = arranged S.on_right }

-- "the standard spelling"
abbrev pub spelling : Sequent → List ℕ
spelling S = encode_sequent (standard S)

-- ---- what the laws say of it

-- x is one of xs
abbrev pub stands : Formula → List Formula → Bool
stands x = fold ANY (same x)

-- "each side has the same set of formulas"
abbrev pub SameSets : Sequent → Sequent → Type 0
SameSets S T = (s : Side) (x : Formula) → (stands x (on_side s S) ≡ true) ↔ (stands x (on_side s T) ≡ true)

-- each formula's bytes are less than those of all behind it
abbrev pub AscendsByBytes : List Formula → Type 0
AscendsByBytes [] = Unit {0}
AscendsByBytes (x ∷ xs) = Each (λ y. compare (encode x) (encode y) ≡ Less) xs × AscendsByBytes xs
