-- Formulas and sequents, and how a sequent is measured.
use Rattle.std.specs.Prelude.{List, ℕ, suc, ◌+◌}
use Rattle.calculus.specs.declared.Side.{Side}
use Rattle.calculus.specs.declared.Side.TheVariants.{Left, Right}
use Rattle.calculus.specs.declared.Pair.{Pair}
use Rattle.calculus.specs.Fold.{Monoid, fold, SUM}

abbrev pub other : Side → Side
other Left = Right
other Right = Left

-- that of a side, where there is one for each
abbrev pub side_of : {T : Type 0} → Pair T → Side → T
side_of p Left = p.left
side_of p Right = p.right

pub data Binary : Type 0 where
  AND OR IMPLIES EQUIV : Binary

pub data Connective : Type 0 where
  NOT : Connective
  two : Binary → Connective

-- a formula: a letter ("the lamp is lit"), NOT of one, or two joined
pub data Formula : Type 0 where
  letter : ℕ → Formula
  neg : Formula → Formula
  join : Binary → Formula → Formula → Formula

-- a formula with a connective, taken apart; NOT has one part, which stands for both
pub record Compound : Type 0 where
  pub connective : Connective
  pub f : Formula
  pub g : Formula

abbrev pub compound : Connective → Formula → Formula → Formula
compound NOT x y = neg x
compound (two b) x y = join b x y

abbrev pub whole : Compound → Formula
whole x = compound x.connective x.f x.g

-- a left side and a right side, each a list
pub record Seq (A : Type 0) : Type 0 where
  pub on_left : List A
  pub on_right : List A

-- a sequent; a question is one
abbrev pub Sequent : Type 0
Sequent = Seq Formula

abbrev pub on_side : {A : Type 0} → Side → Seq A → List A
on_side Left S = S.on_left
on_side Right S = S.on_right

-- a sequent measured by its formulas, each on its side
abbrev pub over : {A X : Type 0} → Monoid A → (Side → X → A) → Seq X → A
over M f S = M.op (fold M (f Left) S.on_left) (fold M (f Right) S.on_right)

abbrev pub connectives : Formula → ℕ
connectives (letter k) = 0
connectives (neg x) = suc (connectives x)
connectives (join b x y) = suc (connectives x + connectives y)

-- "the question's connectives"
abbrev pub c : Sequent → ℕ
c = over SUM (λ s. connectives)

-- how many formulas it holds
abbrev pub size : {X : Type 0} → Seq X → ℕ
size = over SUM (λ s x. 1)
