-- The answer of the call that writes a derivation, by document 01's numbers and values, and what the buffer holds.
use Rattle.std.specs.Prelude.{◌≡◌, List, [], ◌∷◌, ℕ, take, Result, Ok, Err, IfOk}
use Rattle.calculus.specs.declared.Kind.{Kind}
use Rattle.calculus.specs.declared.Kind.TheVariants.{Theorem, Refuted, Spent}
use Rattle.calculus.specs.declared.Verdict.{Verdict}
use Rattle.calculus.specs.Limits.{NOT_PROVED, NO_SPACE}
use Rattle.calculus.specs.Bytes.{question}
use Rattle.calculus.specs.Reading.{accepted, reading}
use Rattle.calculus.specs.Truth.{Valid}
use Rattle.calculus.specs.Tree.{tree, reductions, closings, pairings}
use Rattle.calculus.specs.Derivation.{derivation, passes, checking}
use Rattle.calculus.specs.Syntax.{Sequent}
use Rattle.calculus.specs.Reply.{Reply, verdict_reply, write_out}
use Rattle.question.specs.Answers.{number_of, place_of}
use Rattle.writer.specs.declared.Written.{Written}
use Rattle.writer.specs.declared.NotWritten.{NotWritten}
use Rattle.writer.specs.declared.NotWritten.TheVariants.{Refused, NotProved, NoSpace}

-- 9 and 10 by the verdict's kind; a theorem is not among them
abbrev pub unproved : Kind → ℕ → ℕ → Reply
unproved Theorem r k = verdict_reply Theorem r k
unproved (Refuted σ) r k = record { number = NOT_PROVED; values = σ ∷ r ∷ k ∷ [] }
unproved Spent r k = verdict_reply Spent r k

abbrev pub answer_of : Result Written NotWritten → Reply
answer_of (Ok w) = record { number = 0; values = w.length ∷ w.verdict.reductions ∷ w.verdict.closings ∷ [] }
answer_of (Err (Refused r)) = record { number = number_of r; values = place_of r ∷ [] }
answer_of (Err (NotProved v)) = unproved v.kind v.reductions v.closings
answer_of (Err (NoSpace n)) = record { number = NO_SPACE; values = n ∷ [] }

-- the whole tree's verdict: a theorem, with both counts, n of its closings by equal formulas
pub record IsTheorem (S : Sequent) (v : Verdict) (n : ℕ) : Type 0 where
  pub proved : (tree S).end ≡ Theorem
  pub pairs : n ≡ pairings (tree S).events
  pub counts : v ≡ record { kind = Theorem; reductions = reductions (tree S).events; closings = closings (tree S).events }

-- a theorem's answer, and the buffer after it, as `write_out` has them
pub record WrittenOut (S : Sequent) (v : Verdict) (old new : List ℕ) (r : Result Written NotWritten) : Type 0 where
  pub reply : answer_of r ≡ (write_out Theorem v.reductions v.closings (derivation S) old).reply
  pub buffer : new ≡ (write_out Theorem v.reductions v.closings (derivation S) old).buffer
  pub taken : IfOk r (λ w. (w.verdict ≡ v) × (take w.length new ≡ derivation S))

-- "our derivation of a theorem passes the checker"
pub record Evidence (q : List ℕ) (bytes : List ℕ) : Type 0 where
  pub read : reading q ≡ accepted
  pub valid : Valid (question q)
  pub checks : checking (question q) bytes ≡ passes
