-- What the walk over a formula gives, and that over several.
use Rattle.std.specs.Prelude.{List, ℕ, ◌+◌, ◌^◌, ◌≤◌}
use Rattle.calculus.specs.declared.Side.{Side}
use Rattle.calculus.specs.declared.Side.TheVariants.{Left, Right}
use Rattle.calculus.specs.declared.Pair.{Pair}
use Rattle.calculus.specs.Fold.{fold, SUM, PRODUCT}
use Rattle.calculus.specs.Limits.{CONNECTIVES}
use Rattle.calculus.specs.Syntax.{side_of, Binary, Formula, connectives}
use Rattle.calculus.specs.Bytes.{bytes_all}
use Rattle.calculus.specs.Width.{wide, width}
use Rattle.question.specs.Positions.{formula_at, end_of}
use Rattle.width.specs.declared.Walked.{Walked}

-- "NOT exchanges the pair"
abbrev pub exchanged : Pair ℕ → Pair ℕ
exchanged f = record { left = f.right; right = f.left }

abbrev pub joined : Binary → Pair ℕ → Pair ℕ → Pair ℕ
joined o f g = record { left = wide o Left (side_of f) (side_of g); right = wide o Right (side_of f) (side_of g) }

-- joined by any connective, they stay within the bound of a question's width
abbrev pub Fit : Pair ℕ → Pair ℕ → Type 0
Fit f g = (o : Binary) (s : Side) → wide o s (side_of f) (side_of g) ≤ 2 ^ CONNECTIVES

abbrev pub pair_of : Formula → Pair ℕ
pair_of x = record { left = width Left x; right = width Right x }

abbrev pub walk_of : List ℕ → ℕ → Walked (Pair ℕ)
walk_of q at = record { value = pair_of (formula_at q at); connectives = connectives (formula_at q at); end = end_of q at }

-- several formulas, each on a side, that end behind a position
abbrev pub product_of : Side → ℕ → List Formula → Walked ℕ
product_of s at xs = record { value = fold PRODUCT (width s) xs; connectives = fold SUM connectives xs; end = at + bytes_all xs }
