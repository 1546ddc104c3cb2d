-- "The bytes of a question": what a sequent is written as, and what bytes spell.
use Rattle.std.specs.Prelude.{Bool, false, ◌&&◌, List, [], ◌∷◌, ◌++◌, ℕ, ◌+◌, ◌≤◌, ◌<◌, eqb, length, take, drop}
use Rattle.std.proofs.Math.Option.{Option, none, some}
use Rattle.calculus.specs.declared.Side.{Side}
use Rattle.calculus.specs.declared.Side.TheVariants.{Left, Right}
use Rattle.calculus.specs.Fold.{Each, find}
use Rattle.calculus.specs.Limits.{Limits, LIMITS}
use Rattle.calculus.specs.Syntax.{AND, OR, IMPLIES, EQUIV, Connective, NOT, two, Formula, letter, neg, join, Sequent, on_side, c}

-- ---- commands, one byte each

pub data Command : Type 0 where
  SIDE : Side → Command
  LETTER : Command
  CONNECTIVE : Connective → Command

abbrev pub code : Command → ℕ
code (SIDE Left) = 0x10
code (SIDE Right) = 0x20
code LETTER = 0x01
code (CONNECTIVE NOT) = 0x02
code (CONNECTIVE (two AND)) = 0x03
code (CONNECTIVE (two OR)) = 0x04
code (CONNECTIVE (two IMPLIES)) = 0x05
code (CONNECTIVE (two EQUIV)) = 0x06

abbrev pub commands : List Command
commands =
    LETTER
    ∷ CONNECTIVE NOT
    ∷ CONNECTIVE (two AND)
    ∷ CONNECTIVE (two OR)
    ∷ CONNECTIVE (two IMPLIES)
    ∷ CONNECTIVE (two EQUIV)
    ∷ SIDE Left
    ∷ SIDE Right
    ∷ []

-- the command of a byte
abbrev pub command : ℕ → Option Command
command b = find (λ k. eqb (code k) b) commands

-- ---- writing

abbrev pub encode : Formula → List ℕ
encode (letter k) = code LETTER ∷ k ∷ []
encode (neg x) = code (CONNECTIVE NOT) ∷ encode x
encode (join b x y) = code (CONNECTIVE (two b)) ∷ (encode x ++ encode y)

-- "equal formulas are equal bytes": formula by formula, and the law `same_bytes` says that it is so
abbrev pub same : Formula → Formula → Bool
same (letter j) (letter k) = eqb j k
same (letter j) (neg y) = false
same (letter j) (join d z w) = false
same (neg x) (letter k) = false
same (neg x) (neg y) = same x y
same (neg x) (join d z w) = false
same (join b x y) (letter k) = false
same (join b x y) (neg z) = false
same (join b x y) (join d z w) = eqb (code (CONNECTIVE (two b))) (code (CONNECTIVE (two d))) && (same x z && same y w)

abbrev pub encode_all : List Formula → List ℕ
encode_all [] = []
encode_all (x ∷ xs) = encode x ++ encode_all xs

abbrev pub encode_side : Side → List Formula → List ℕ
encode_side s xs = code (SIDE s) ∷ length xs ∷ encode_all xs

-- 10 with its formulas, then 20 with its formulas
abbrev pub encode_sequent : Sequent → List ℕ
encode_sequent S = encode_side Left S.on_left ++ encode_side Right S.on_right

-- ---- what bytes spell: the formulas, one after the other, up to the first byte that begins none

-- a connective takes its parts from those that follow it
abbrev pub attach : Connective → List Formula → List Formula
attach NOT [] = []
attach NOT (x ∷ xs) = neg x ∷ xs
attach (two b) [] = []
attach (two b) (x ∷ []) = []
attach (two b) (x ∷ y ∷ xs) = join b x y ∷ xs

-- by the command at hand: k is the byte after it, `past` what the bytes after k spell, `here` what those from k on spell
abbrev pub spell : Option Command → ℕ → List Formula → List Formula → List Formula
spell none k past here = []
spell (some (SIDE s)) k past here = []
spell (some LETTER) k past here = letter k ∷ past
spell (some (CONNECTIVE j)) k past here = attach j here

abbrev pub formulas : List ℕ → List Formula
formulas [] = []
formulas (b ∷ []) = []
formulas (b ∷ k ∷ bs) = spell (command b) k (formulas bs) (formulas (k ∷ bs))

-- the bytes of a formula, and of several, counted
abbrev pub bytes : Formula → ℕ
bytes x = length (encode x)

abbrev pub bytes_all : List Formula → ℕ
bytes_all xs = length (encode_all xs)

-- the question of accepted bytes
abbrev pub question : List ℕ → Sequent
question q = let l : List Formula = formulas (drop 2 q) in record { on_left = l; on_right = formulas (drop (4 + bytes_all l) q) }

-- where the formulas of a side start, and where the one at a place starts
abbrev pub side_start : Side → Sequent → ℕ
side_start Left S = 2
side_start Right S = 4 + bytes_all S.on_left

abbrev pub start_of : Side → ℕ → Sequent → ℕ
start_of s i S = side_start s S + bytes_all (take i (on_side s S))

-- ---- "has at most"

-- its letters are among the first n
abbrev pub LetteredUnder : ℕ → Formula → Type 0
LetteredUnder n (letter k) = k < n
LetteredUnder n (neg x) = LetteredUnder n x
LetteredUnder n (join b x y) = LetteredUnder n x × LetteredUnder n y

-- within any limits
pub record WithinUnder (L : Limits) (S : Sequent) : Type 0 where
  pub lefts : length S.on_left ≤ L.formulas
  pub rights : length S.on_right ≤ L.formulas
  pub connectives : c S ≤ L.connectives
  pub letters_left : Each (LetteredUnder L.letters) S.on_left
  pub letters_right : Each (LetteredUnder L.letters) S.on_right

-- its letters are among all there are
abbrev pub Lettered : Formula → Type 0
Lettered = LetteredUnder LIMITS.letters

-- within the limits
abbrev pub Within : Sequent → Type 0
Within = WithinUnder LIMITS
