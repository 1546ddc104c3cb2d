-- The checker's steps, each by the documents' definitions.
use Rattle.std.specs.Prelude.{◌≡◌, List, [], ◌++◌, ℕ, ◌≤◌, length, take, drop, Result, Ok, Err}
use Rattle.calculus.specs.Fold.{fold, SUM}
use Rattle.calculus.specs.Syntax.{Sequent, size}
use Rattle.calculus.specs.Derivation.{Move as Said, fault, waiting, shut, faulty, check}
use Rattle.sequent.specs.declared.Counted.{Counted}
use Rattle.sequent.specs.declared.Running.{Running}
use Rattle.sequent.specs.Compounds.{premises_at, Reducible}
use Rattle.checker.specs.Answers.{fault_number, fault_place}
use Rattle.checker.specs.declared.Fault.{Fault}
use Rattle.checker.specs.declared.Move.{Move}
use Rattle.checker.specs.declared.Move.TheVariants.{Closed, Paired, Reduce}

-- ---- what a command says

-- a move of the command at `at`, where the documents' is m
abbrev pub Moves : List ℕ → List ℕ → Running → ℕ → Said → Result Move Fault → Type 0
Moves T items s at m (Err f) = (m ≡ fault (fault_number f)) × (fault_place f ≡ at)
Moves T items s at m (Ok Closed) = m ≡ waiting []
Moves T items s at m (Ok Paired) = m ≡ shut
Moves T items s at m (Ok (Reduce r)) = (m ≡ waiting (premises_at T items s r)) × Reducible T items s r

-- ---- the derivations of sequents from a place on, one after the other, whatever waits after them

abbrev pub Walks : List ℕ → List Sequent → ℕ → Result ℕ Fault → Type 0
Walks d Ss at (Ok e) = (e ≤ length d) × ((Ps : List Sequent) → check (drop at d) (Ss ++ Ps) at ≡ check (drop e d) Ps e)
Walks d Ss at (Err f) = (Ps : List Sequent) → check (drop at d) (Ss ++ Ps) at ≡ faulty (fault_number f) (fault_place f)

-- the premises made: all where the walk came through, else the first n
abbrev pub Made : List Sequent → ℕ → Result ℕ Fault → Type 0
Made Ps k (Ok e) = k ≡ fold SUM size Ps
Made Ps k (Err f) = (n : ℕ) × (1 ≤ n) × (k ≡ fold SUM size (take n Ps))

-- premises walked, and the stores made for them: their formulas together
pub record Tallied (d : List ℕ) (Ps : List Sequent) (at : ℕ) (t : Counted (Result ℕ Fault)) : Type 0 where
  pub walks : Walks d Ps at t.value
  pub stores : Made Ps t.stores t.value
