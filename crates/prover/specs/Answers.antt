-- The answer of the call that decides: document 01's number and values, and what demands 2 and 3 say of it.
use Rattle.std.specs.Prelude.{◌≡◌, ◌≢◌, ◌↔◌, List, [], ◌∷◌, ℕ, ◌+◌, ◌*◌, ◌≤◌, ◌<◌, Result, Ok, Err}
use Rattle.calculus.specs.declared.Kind.TheVariants.{Theorem, Refuted, Spent}
use Rattle.calculus.specs.declared.Verdict.{Verdict}
use Rattle.calculus.specs.Syntax.{Sequent, c}
use Rattle.calculus.specs.Bytes.{question}
use Rattle.calculus.specs.Reading.{accepted, reading}
use Rattle.calculus.specs.Truth.{Valid, Refutes}
use Rattle.calculus.specs.Tree.{tree, open_one, reductions, closings, closings_before}
use Rattle.calculus.specs.Width.{W}
use Rattle.calculus.specs.Reply.{Reply, verdict_reply}
use Rattle.question.specs.declared.Refusal.{Refusal}
use Rattle.question.specs.Answers.{number_of, place_of}

abbrev pub decision_of : Result Verdict Refusal → Reply
decision_of (Ok v) = verdict_reply v.kind v.reductions v.closings
decision_of (Err r) = record { number = number_of r; values = place_of r ∷ [] }

-- demand 2: "unless its run ends SPENT .., an accepted question is a theorem exactly if every state .. makes it true,
-- and otherwise the state returned makes each left formula true and each right one false"
pub record Truthful (S : Sequent) (v : Verdict) : Type 0 where
  pub sound : v.kind ≡ Theorem → Valid S
  pub complete : v.kind ≢ Spent → Valid S → v.kind ≡ Theorem
  pub refutes : (σ : ℕ) → v.kind ≡ Refuted σ → Refutes σ S

-- demand 3, with r the reductions and k the closings of the tree
pub record Counted (S : Sequent) (b : ℕ) (v : Verdict) : Type 0 where
  pub reductions_bound : reductions (tree S).events ≤ c S * W S
  pub closings_bound : closings (tree S).events + open_one (tree S).end ≤ W S
  pub spent_exactly : (v.kind ≡ Spent) ↔ (b < reductions (tree S).events)
  pub spent : b < reductions (tree S).events → v ≡ record { kind = Spent; reductions = b; closings = closings_before b (tree S).events }
  pub otherwise : reductions (tree S).events ≤ b → v ≡ record { kind = (tree S).end; reductions = reductions (tree S).events; closings = closings (tree S).events }

-- of every verdict
pub record Promised (q : List ℕ) (b : ℕ) (v : Verdict) : Type 0 where
  pub read : reading q ≡ accepted
  pub truthful : Truthful (question q) v
  pub counted : Counted (question q) b v
