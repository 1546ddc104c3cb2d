-- The code's commands of a derivation as those of document 01, and their bytes.
use Rattle.std.specs.Prelude.{◌≡◌, ℕ, Result, MatchResult}
use Rattle.std.proofs.Math.Option.{none, some}
use Rattle.calculus.specs.Derivation.{Order as Defined, CLOSE, PAIR, REDUCE, order, order_code}
use Rattle.question.specs.Connectives.{connective_of}
use Rattle.sequent.specs.declared.order.Order.{Order}
use Rattle.sequent.specs.declared.order.Order.TheVariants.{Close, Pair, Reduce}
use Rattle.sequent.specs.declared.order.NoOrder.{NoOrder}

abbrev pub order_of : Order → Defined
order_of Close = CLOSE
order_of Pair = PAIR
order_of (Reduce s k) = REDUCE s (connective_of k)

-- a command's byte
abbrev pub byte_of : Order → ℕ
byte_of o = order_code (order_of o)

-- the command of a byte, or that there is none
abbrev pub Orders : ℕ → Result Order NoOrder → Type 0
Orders b r = MatchResult r (λ o. order b ≡ some (order_of o)) (λ e. order b ≡ none)
