-- The code's connectives as those of document 01, and the bytes that are their commands.
use Rattle.std.specs.Prelude.{◌≡◌, ℕ, Result, MatchResult}
use Rattle.calculus.specs.Syntax.{Binary as DefinedTwo, AND, OR, IMPLIES, EQUIV, Connective as Defined, NOT, two}
use Rattle.calculus.specs.Bytes.{CONNECTIVE, code}
use Rattle.question.specs.declared.connective.Binary.{Binary}
use Rattle.question.specs.declared.connective.Binary.TheVariants.{And, Or, Implies, Equiv}
use Rattle.question.specs.declared.connective.Connective.{Connective}
use Rattle.question.specs.declared.connective.Connective.TheVariants.{Not, Two as Joins}
use Rattle.question.specs.declared.connective.NoConnective.{NoConnective}

abbrev pub binary_of : Binary → DefinedTwo
binary_of And = AND
binary_of Or = OR
binary_of Implies = IMPLIES
binary_of Equiv = EQUIV

abbrev pub connective_of : Connective → Defined
connective_of Not = NOT
connective_of (Joins o) = two (binary_of o)

abbrev pub command_of : Connective → ℕ
command_of k = code (CONNECTIVE (connective_of k))

-- and those of document 01 as the code's
abbrev pub coded : Defined → Connective
coded NOT = Not
coded (two AND) = Joins And
coded (two OR) = Joins Or
coded (two IMPLIES) = Joins Implies
coded (two EQUIV) = Joins Equiv

-- the connective whose command is the byte, or that there is none
abbrev pub Names : ℕ → Result Connective NoConnective → Type 0
Names b r = MatchResult r (λ k. b ≡ command_of k) (λ e. (k : Connective) → b ≡ command_of k → ⊥)
