-- The first compound of a running sequent, compounds on both sides, and how a compound reduces.
use Rattle.std.specs.Prelude.{◌≡◌, Option, Some, None, List, [], ◌∷◌, ℕ, suc, ◌+◌, ◌%◌, ◌≤◌, ◌<◌, ltb, length, take, get_or}
use Rattle.calculus.specs.declared.Side.{Side}
use Rattle.calculus.specs.declared.Side.TheVariants.{Left, Right}
use Rattle.calculus.specs.Fold.{choose}
use Rattle.calculus.specs.Limits.{LETTERS}
use Rattle.calculus.specs.Syntax.{NOT, two, Formula, letter, neg, join, Compound, whole, Seq, Sequent, c}
use Rattle.calculus.specs.Table.{premise, premises}
use Rattle.calculus.specs.Reached.{Reachable}
use Rattle.calculus.specs.Tree.{Twins, unlike, alike}
use Rattle.sequent.specs.declared.Running.{Running}
use Rattle.sequent.specs.declared.Reduction.{Reduction}
use Rattle.calculus.specs.declared.Pair.{Pair}
use Rattle.sequent.specs.declared.Place.{Place}
use Rattle.sequent.specs.Names.{formula_in, node_of, connective_of, first_of, second_of}
use Rattle.sequent.specs.Rule.{Placing, rule_of, placed}
use Rattle.sequent.specs.View.{view, count_of, name_at, named, sequent_of, Good}

-- ---- the first

-- the first place of a name of a kind, or that there is none
abbrev pub Stands : (ℕ → Type 0) → List ℕ → Option ℕ → Type 0
Stands Q xs (Some j) = (j < length xs) × Q (get_or xs j 0) × ((k : ℕ) → k < j → Q (get_or xs k 0) → ⊥)
Stands Q xs None = (k : ℕ) → k < length xs → Q (get_or xs k 0) → ⊥

-- its place among names, or their number; the names below LETTERS are letters
abbrev pub first_in : List ℕ → ℕ
first_in [] = 0
first_in (x ∷ xs) = choose (ltb x LETTERS) (suc (first_in xs)) 0

-- letters alone stand before a place of the list
pub record Clear (from : ℕ) (items : List ℕ) (s : Running) : Type 0 where
  pub inside : from ≤ s.left.count + s.right.count
  pub letters : first_in (take from items) ≡ from

-- "the first formula with a connective, the left side before the right", at a place of a side
abbrev pub FoundAt : Seq ℕ → Side → ℕ → Type 0
FoundAt N Left i = (i ≡ first_in N.on_left) × (i < length N.on_left)
FoundAt N Right i = (first_in N.on_left ≡ length N.on_left) × (i ≡ first_in N.on_right) × (i < length N.on_right)

-- that, or there is none
abbrev pub Found : Seq ℕ → Option Place → Type 0
Found N (Some p) = FoundAt N p.side p.at
Found N None = (first_in N.on_left ≡ length N.on_left) × (first_in N.on_right ≡ length N.on_right)

-- ---- equal compounds

-- a compound stands at this left place and at this right place
pub record EqualAt (N : Seq ℕ) (i j : ℕ) : Type 0 where
  pub left : i < length N.on_left
  pub right : j < length N.on_right
  pub compound : LETTERS ≤ name_at Left i N
  pub equal : name_at Left i N ≡ name_at Right j N

-- "the lowest left place that has an equal on the right, with the lowest such right place"
abbrev pub Paired : Seq ℕ → Option (Pair ℕ) → Type 0
Paired N (Some p) = EqualAt N p.left p.right × ((m n : ℕ) → EqualAt N m n → (p.left ≤ m) × (m ≡ p.left → p.right ≤ n))
Paired N None = (m n : ℕ) → EqualAt N m n → ⊥

-- document 02's pair
abbrev pub twins_of : Option (Pair ℕ) → Twins
twins_of (Some p) = alike p.left p.right
twins_of None = unlike

-- ---- a compound taken apart

abbrev pub compound_of : Formula → Compound
compound_of (letter k) = record { connective = NOT; f = letter k; g = letter k }
compound_of (neg x) = record { connective = NOT; f = x; g = x }
compound_of (join b x y) = record { connective = two b; f = x; g = y }

-- a formula with a connective
abbrev pub IsCompound : Formula → Type 0
IsCompound x = x ≡ whole (compound_of x)

-- the compound at a place of a side
abbrev pub compound_at : List ℕ → Side → ℕ → Seq ℕ → Compound
compound_at T t i N = compound_of (formula_in T (name_at t i N))

-- its reduction, by its node
abbrev pub reduction_at : List ℕ → Side → ℕ → Seq ℕ → Reduction
reduction_at T t i N = record { place = record { side = t; at = i }; node = node_of T (name_at t i N) }

-- the row of the table that a reduction goes by
abbrev pub rule_for : Reduction → List Placing
rule_for r = rule_of (connective_of (r.node % 256)) r.place.side

-- ---- premises

-- the premises of a reduction
abbrev pub premises_at : List ℕ → List ℕ → Running → Reduction → List Sequent
premises_at T items s r = premises r.place.side r.place.at (compound_at T r.place.side r.place.at (view s items)) (sequent_of T items s)

-- the premise in which the parts go where p says
abbrev pub premise_by : List ℕ → List ℕ → Running → Reduction → Placing → Sequent
premise_by T items s r p = named (formula_in T) (premise r.place.side r.place.at (view s items) (placed p (first_of r.node) (second_of r.node)))

-- a reduction that can be made: a compound stands at its place
pub record Reducible (T items : List ℕ) (s : Running) (r : Reduction) : Type 0 where
  pub inside : r.place.at < count_of r.place.side s
  pub compound : LETTERS ≤ name_at r.place.side r.place.at (view s items)
  pub exact : r ≡ reduction_at T r.place.side r.place.at (view s items)

-- a premise of it can be made: it is reached too, and has less connectives
pub record Makes (T items : List ℕ) (s : Running) (r : Reduction) (p : Placing) : Type 0 where
  pub good : Good T items s
  pub can : Reducible T items s r
  pub reached : Reachable (premise_by T items s r p)
  pub fewer : 1 + c (premise_by T items s r p) ≤ c (sequent_of T items s)
