-- The names of a question, formula by formula.
use Rattle.std.specs.Prelude.{◌≡◌, List, [], ◌∷◌, ℕ, ◌+◌, ◌≤◌, ◌<◌, length, take, get_or}
use Rattle.std.proofs.Math.Seq.{slice}
use Rattle.calculus.specs.declared.Side.{Side}
use Rattle.calculus.specs.declared.Side.TheVariants.{Left, Right}
use Rattle.calculus.specs.Fold.{fold, SUM}
use Rattle.calculus.specs.Limits.{ROOM, CONNECTIVES, LETTERS}
use Rattle.calculus.specs.Syntax.{Formula, Sequent, connectives}
use Rattle.calculus.specs.Bytes.{Lettered}
use Rattle.question.specs.declared.Ended.{Ended}
use Rattle.question.specs.Positions.{Well, formula_at, end_of}
use Rattle.sequent.specs.Names.{node_of, Tells, Distinct, first_of, second_of}
use Rattle.sequent.specs.View.{letters_of, compounds_of}
use Rattle.sequent.specs.declared.Half.{Half}

-- ---- nodes

-- no two nodes are equal, and the names of the parts of each are lower than its own
pub record Nodes (T : List ℕ) : Type 0 where
  pub distinct : Distinct T (length T)
  pub lower : (i : ℕ) → i < length T → (first_of (get_or T i 0) < LETTERS + i) × (second_of (get_or T i 0) < LETTERS + i)

-- the nodes stay
abbrev pub Kept : List ℕ → List ℕ → Type 0
Kept T R = (k : ℕ) → k < length T → get_or R k 0 ≡ get_or T k 0

-- the same nodes, and maybe one more: the name is that of the node w
pub record Noted (w : ℕ) (T R : List ℕ) (name : ℕ) : Type 0 where
  pub above : LETTERS ≤ name
  pub below : name < LETTERS + length R
  pub held : node_of R name ≡ w
  pub more : length T ≤ length R
  pub few : length R ≤ length T + 1
  pub nodes : Nodes R
  pub kept : Kept T R

-- the same nodes, and at most one more for each connective of the formula at a position: they tell what its name stands for
pub record Numbered (q : List ℕ) (at : ℕ) (T R : List ℕ) (r : Ended ℕ) : Type 0 where
  pub tells : Tells R r.value (formula_at q at)
  pub below : r.value < LETTERS + length R
  pub end : r.end ≡ end_of q at
  pub more : length T ≤ length R
  pub few : length R ≤ length T + connectives (formula_at q at)
  pub nodes : Nodes R
  pub kept : Kept T R

-- a formula whose connectives can be numbered beside the nodes
pub record Numbers (q : List ℕ) (at : ℕ) (T : List ℕ) : Type 0 where
  pub well : Well q at
  pub lettered : Lettered (formula_at q at)
  pub fits : length T + connectives (formula_at q at) ≤ CONNECTIVES
  pub nodes : Nodes T

-- ---- the formulas so far

-- names, and the formulas that the nodes tell of them
abbrev pub NamesAll : List ℕ → List ℕ → List Formula → Type 0
NamesAll T [] [] = Unit {0}
NamesAll T [] (x ∷ xs) = ⊥
NamesAll T (d ∷ ds) [] = ⊥
NamesAll T (d ∷ ds) (x ∷ xs) = Tells T d x × (d < LETTERS + length T) × NamesAll T ds xs

-- none yet of a side whose formulas start at a position
abbrev pub none_yet : ℕ → Ended Half
none_yet start = record { value = record { count = 0; mask = 0; set = 0 }; end = start }

-- the places so far name these formulas; those from `first` on are of the side that is being filled
pub record Loads (T items : List ℕ) (first : ℕ) (l : Ended Half) (xs : List Formula) : Type 0 where
  pub room : length items ≡ ROOM
  pub nodes : Nodes T
  pub few : length T ≤ fold SUM connectives xs
  pub count : first + l.value.count ≡ length xs
  pub names : NamesAll T (take (first + l.value.count) items) xs
  pub mask : l.value.mask ≡ letters_of (slice first (first + l.value.count) items)
  pub set : l.value.set ≡ compounds_of (slice first (first + l.value.count) items)

-- a formula can come to them
pub record Enters (q : List ℕ) (l : Ended Half) (xs : List Formula) : Type 0 where
  pub well : Well q l.end
  pub lettered : Lettered (formula_at q l.end)
  pub fits : fold SUM connectives xs + connectives (formula_at q l.end) ≤ CONNECTIVES
  pub room : length xs < ROOM

-- a question's formulas before a side's
abbrev pub before : Side → Sequent → List Formula
before Left S = []
before Right S = S.on_left
