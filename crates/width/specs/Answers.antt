-- Document 01's number and values of each answer of the width call.
use Rattle.std.specs.Prelude.{◌≡◌, Result, Ok, Err, List, [], ◌∷◌, ℕ, ◌^◌, ◌≤◌}
use Rattle.calculus.specs.Syntax.{c}
use Rattle.calculus.specs.Bytes.{question}
use Rattle.calculus.specs.Width.{W}
use Rattle.calculus.specs.Reply.{Reply}
use Rattle.question.specs.declared.Refusal.{Refusal}
use Rattle.question.specs.Answers.{number_of, place_of}
use Rattle.width.specs.declared.Measure.{Measure}

abbrev pub width_of : Result Measure Refusal → Reply
width_of (Err r) = record { number = number_of r; values = place_of r ∷ [] }
width_of (Ok m) = record { number = 0; values = m.width ∷ m.connectives ∷ [] }

-- "with c the question's connectives, W is at most 2 to the power c"
pub record Sized (q : List ℕ) (w n : ℕ) : Type 0 where
  pub is_width : w ≡ W (question q)
  pub is_count : n ≡ c (question q)
  pub bounded : w ≤ 2 ^ n
