-- Formulas by name: a letter is named by itself, a compound by its node, above the letters. A node has the command of a connective and
-- the names of its parts, which are lower than its own. No two nodes are equal, so equal formulas have one name.
use Rattle.std.specs.Prelude.{◌≡◌, List, ℕ, zero, suc, ◌+◌, ◌-◌, ◌*◌, ◌/◌, ◌%◌, ◌≤◌, ◌<◌, eqb, ltb, length, get_or}
use Rattle.calculus.specs.Fold.{choose}
use Rattle.calculus.specs.Limits.{LETTERS}
use Rattle.calculus.specs.Syntax.{AND, OR, IMPLIES, EQUIV, Connective, NOT, two, Formula, letter, neg, join, compound}
use Rattle.calculus.specs.Bytes.{CONNECTIVE, code}

-- a connective's command and the names of its parts; NOT has its one part for both
abbrev pub node : ℕ → ℕ → ℕ → ℕ
node b f g = b + 256 * f + 65536 * g

-- the node of a compound's name
abbrev pub node_of : List ℕ → ℕ → ℕ
node_of T d = get_or T (d - LETTERS) 0

-- a compound's name, its node and the names of its parts
pub record Node (T : List ℕ) (d b f g : ℕ) : Type 0 where
  pub above : LETTERS ≤ d
  pub held : node_of T d ≡ node b f g
  pub first : f < d
  pub second : g < d

-- the nodes tell that a name stands for a formula
abbrev pub Tells : List ℕ → ℕ → Formula → Type 0
Tells T d (letter k) = (d ≡ k) × (k < LETTERS)
Tells T d (neg x) = (f : ℕ) × Node T d (code (CONNECTIVE NOT)) f f × Tells T f x
Tells T d (join b x y) = (f : ℕ) × (g : ℕ) × Node T d (code (CONNECTIVE (two b))) f g × Tells T f x × Tells T g y

-- the first n nodes tell what a name stands for
pub record Known (T : List ℕ) (n d : ℕ) : Type 0 where
  pub formula : Formula
  pub tells : Tells T d formula
  pub below : d < LETTERS + n

-- no two of the first n nodes are equal
abbrev pub Distinct : List ℕ → ℕ → Type 0
Distinct T n = (i j : ℕ) → i < n → j < n → get_or T i 0 ≡ get_or T j 0 → i ≡ j

-- ---- the formula of a name

-- a node read: the connective, and the names of its parts
abbrev pub connective_of : ℕ → Connective
connective_of b = choose (eqb b 3) (two AND) (choose (eqb b 4) (two OR) (choose (eqb b 5) (two IMPLIES) (choose (eqb b 6) (two EQUIV) NOT)))

abbrev pub first_of : ℕ → ℕ
first_of w = w / 256 % 256

abbrev pub second_of : ℕ → ℕ
second_of w = w / 65536 % 256

-- read at most n nodes deep
abbrev pub formula_by : ℕ → List ℕ → ℕ → Formula
formula_by zero T d = letter d
formula_by (suc n) T d =
    choose (ltb d LETTERS) (letter d) (compound (connective_of (node_of T d % 256)) (formula_by n T (first_of (node_of T d))) (formula_by n T (second_of (node_of T d))))

-- the formula that a name stands for
abbrev pub formula_in : List ℕ → ℕ → Formula
formula_in T d = formula_by (length T) T d
