-- The number and values of each answer of the call, and what holds of the spelling.
use Rattle.std.specs.Prelude.{◌≡◌, ◌↔◌, List, [], ◌∷◌, ℕ, ◌≤◌, length, Result, Ok, Err}
use Rattle.calculus.specs.declared.Side.{Side}
use Rattle.calculus.specs.Limits.{NO_SPACE}
use Rattle.calculus.specs.Syntax.{on_side}
use Rattle.calculus.specs.Bytes.{question}
use Rattle.calculus.specs.Reading.{accepted, reading}
use Rattle.calculus.specs.Truth.{truth, Valid}
use Rattle.calculus.specs.Standard.{spelling, SameSets, AscendsByBytes}
use Rattle.calculus.specs.Reply.{Reply}
use Rattle.question.specs.Answers.{number_of, place_of}
use Rattle.spelling.specs.declared.NotSpelled.{NotSpelled}
use Rattle.spelling.specs.declared.NotSpelled.TheVariants.{Refused, NoSpace}

abbrev pub spelling_of : Result ℕ NotSpelled → Reply
spelling_of (Ok n) = record { number = 0; values = n ∷ [] }
spelling_of (Err (Refused r)) = record { number = number_of r; values = place_of r ∷ [] }
spelling_of (Err (NoSpace n)) = record { number = NO_SPACE; values = n ∷ [] }

-- bs spell the question q
pub record Spells (q bs : List ℕ) : Type 0 where
  -- a question again, never longer
  pub reads : reading bs ≡ accepted
  pub shorter : length bs ≤ length q
  -- "on each side the formulas ascend by bytes compared from the first, and equal ones are written once"
  pub ascends : (s : Side) → AscendsByBytes (on_side s (question bs))
  pub sets : SameSets (question bs) (question q)
  -- "truth in every state is kept"
  pub truths : (σ : ℕ) → truth σ (question bs) ≡ truth σ (question q)
  pub valid : Valid (question bs) ↔ Valid (question q)
  -- "the spelling of a spelling is itself"
  pub itself : spelling (question bs) ≡ bs
  -- "two accepted questions get the same spelling exactly if each side has the same set of formulas"
  pub alike : (p : List ℕ) → reading p ≡ accepted → (spelling (question p) ≡ bs) ↔ SameSets (question p) (question q)
