-- The number and values of the answer, and what holds of a verdict.
use Rattle.std.specs.Prelude.{◌≡◌, true, ◌↔◌, Result, Ok, Err, List, [], ◌∷◌, ℕ, ◌≤◌, length}
use Rattle.calculus.specs.declared.ClauseVerdict.{ClauseVerdict}
use Rattle.calculus.specs.declared.ClauseVerdict.TheVariants.{Refuted}
use Rattle.calculus.specs.Limits.{RIGHT_FORMULA, NOT_CLAUSE, MANY_POSITIVE}
use Rattle.calculus.specs.Bytes.{question}
use Rattle.calculus.specs.Reading.{accepted, reading}
use Rattle.calculus.specs.Truth.{Valid, Refutes}
use Rattle.calculus.specs.Tree.{verdict}
use Rattle.calculus.specs.States.{letters_in}
use Rattle.calculus.specs.Clauses.{is_theorem, rounds_of, Correct, Agrees}
use Rattle.calculus.specs.Reply.{Reply, decision_reply}
use Rattle.question.specs.Answers.{number_of, place_of}
use Rattle.clauses.specs.declared.NotClauses.{NotClauses}
use Rattle.clauses.specs.declared.NotClauses.TheVariants.{Refused, RightFormula, NotClause, ManyPositive}

abbrev pub reply_of : Result ClauseVerdict NotClauses → Reply
reply_of (Ok v) = decision_reply v
reply_of (Err (Refused r)) = record { number = number_of r; values = place_of r ∷ [] }
reply_of (Err (RightFormula at)) = record { number = RIGHT_FORMULA; values = at ∷ [] }
reply_of (Err (NotClause at)) = record { number = NOT_CLAUSE; values = at ∷ [] }
reply_of (Err (ManyPositive at)) = record { number = MANY_POSITIVE; values = at ∷ [] }

-- of every verdict on the question q
pub record Decides (q : List ℕ) (v : ClauseVerdict) : Type 0 where
  pub read : reading q ≡ accepted
  -- a theorem exactly if true in every state; a state returned is the least one that refutes
  pub exactly : (is_theorem v ≡ true) ↔ Valid (question q)
  pub correct : Correct (question q) v
  pub refutes : (σ n : ℕ) → v ≡ Refuted σ n → Refutes σ (question q)
  -- beside decide's verdict, under any budget
  pub agrees : (b : ℕ) → Agrees v (verdict b (question q)).kind
  -- "at most the number of lamps in the question"
  pub rounds : rounds_of v ≤ length (letters_in (question q))
