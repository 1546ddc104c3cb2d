-- Clauses as masks: a set of letters is the state in which just these are lit.
use Rattle.std.proofs.Math.Option.{Option, none, some}
use Rattle.std.specs.Prelude.{Result, Ok, Err, List, ℕ}
use Rattle.calculus.specs.Fold.{choose}
use Rattle.calculus.specs.Tree.{state}
use Rattle.calculus.specs.Clauses.{Clause, clause_of, several}
use Rattle.question.specs.declared.Ended.{Ended}
use Rattle.question.specs.Positions.{formula_at, end_of}
use Rattle.clauses.specs.declared.Masks.{Masks}
use Rattle.clauses.specs.declared.NotClauses.{NotClauses}
use Rattle.clauses.specs.declared.NotClauses.TheVariants.{NotClause, ManyPositive}

-- a clause's letters under NOT, and those without
abbrev pub masks_of : Clause → Masks
masks_of c = record { negative = state c.negative; positive = state c.positive }

-- the clause of a formula from at to e, if it has at most one letter without NOT
abbrev pub clause_by : Option Clause → ℕ → ℕ → Result (Ended Masks) NotClauses
clause_by none at e = Err (NotClause at)
clause_by (some c) at e = choose (several c.positive) (Err (ManyPositive at)) (Ok (record { value = masks_of c; end = e }))

-- that of the formula at a position
abbrev pub clause_at : List ℕ → ℕ → Result (Ended Masks) NotClauses
clause_at q at = clause_by (clause_of (formula_at q at)) at (end_of q at)
