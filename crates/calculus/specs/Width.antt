-- "Width".
use Rattle.std.specs.Prelude.{ℕ, ◌+◌, ◌*◌}
use Rattle.calculus.specs.declared.Side.{Side}
use Rattle.calculus.specs.declared.Side.TheVariants.{Left, Right}
use Rattle.calculus.specs.Fold.{PRODUCT}
use Rattle.calculus.specs.Syntax.{other, Binary, AND, OR, IMPLIES, EQUIV, Formula, letter, neg, join, Sequent, over}

-- the widths of the parts, on each side, give that of the whole
abbrev pub wide : Binary → Side → (Side → ℕ) → (Side → ℕ) → ℕ
wide AND Left f g = f Left * g Left
wide AND Right f g = f Right + g Right
wide OR Left f g = f Left + g Left
wide OR Right f g = f Right * g Right
wide IMPLIES Left f g = f Right + g Left
wide IMPLIES Right f g = f Left * g Right
wide EQUIV Left f g = f Left * g Left + f Right * g Right
wide EQUIV Right f g = f Left * g Right + g Left * f Right

-- L and R: the left and the right width. "NOT has the width of its part on the other side."
abbrev pub width : Side → Formula → ℕ
width s (letter k) = 1
width s (neg x) = width (other s) x
width s (join b x y) = wide b s (λ t. width t x) (λ t. width t y)

-- "the question's width W is the product over its formulas, each on its side; an empty product is 1"
abbrev pub W : Sequent → ℕ
W = over PRODUCT width
