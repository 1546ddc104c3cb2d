-- What the walk over a formula's bytes gathers.
use Rattle.std.proofs.Math.Option.{none, some}
use Rattle.std.proofs.Math.Option as Math
use Rattle.std.specs.Prelude.{Option, None, Some, List, [], ◌∷◌, ℕ, ◌+◌, ◌≤◌, ◌<◌, length, take, drop}
use Rattle.calculus.specs.Fold.{Each}
use Rattle.calculus.specs.Syntax.{Formula}
use Rattle.calculus.specs.Bytes.{formulas, bytes_all, Lettered}
use Rattle.calculus.specs.Clauses.{Clause, both, clause_of, light_all}
use Rattle.clauses.specs.declared.Gathered.{Gathered}

-- nothing yet, where one formula is due
abbrev pub start_at : ℕ → Gathered
start_at at = record { masks = record { negative = 0; positive = 0 }; count = 0; at = at; due = 1 }

-- the clause of several formulas joined by OR
abbrev pub clause_all : List Formula → Math.Option Clause
clause_all [] = some (record { negative = []; positive = [] })
clause_all (x ∷ xs) = both (clause_of x) (clause_all xs)

-- what is gathered so far, with a clause of b bytes more
abbrev pub with_clause : Gathered → Math.Option Clause → ℕ → Option Gathered
with_clause g none b = None
with_clause g (some c) b =
    Some (record {
      masks = record { negative = light_all c.negative g.masks.negative; positive = light_all c.positive g.masks.positive };
      count = g.count + length c.positive;
      at = g.at + b;
      due = 0;
    })

-- the formulas that are due
abbrev pub ahead : List ℕ → Gathered → List Formula
ahead q g = take g.due (formulas (drop g.at q))

-- all that will be gathered, if it is a clause
abbrev pub total : List ℕ → Gathered → Option Gathered
total q g = with_clause g (clause_all (ahead q g)) (bytes_all (ahead q g))

-- the same, after a step
abbrev pub total_of : List ℕ → Option Gathered → Option Gathered
total_of q (Some g) = total q g
total_of q None = None

-- within a question
pub record Within (q : List ℕ) (g : Gathered) : Type 0 where
  pub enough : g.due ≤ length (formulas (drop g.at q))
  pub lettered : Each Lettered (ahead q g)
  pub counted : g.count ≤ g.at

-- a step goes on behind position p
abbrev pub Onward : List ℕ → ℕ → Option Gathered → Type 0
Onward q p (Some g) = Within q g × (p < g.at)
Onward q p None = Unit {0}
