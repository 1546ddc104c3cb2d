-- "Reached from an accepted question by reductions in any order" (document 02, g).
use Rattle.std.specs.Prelude.{◌≡◌, ℕ}
use Rattle.std.proofs.Math.Option.{some}
use Rattle.std.proofs.Math.ListN.{get_elem?}
use Rattle.calculus.specs.declared.Side.{Side}
use Rattle.calculus.specs.Limits.{Limits, LIMITS}
use Rattle.calculus.specs.Syntax.{Compound, Sequent}
use Rattle.calculus.specs.Bytes.{WithinUnder}
use Rattle.calculus.specs.Table.{Holds, premises}

-- by reductions in any order, closed or not: any side, any place that holds a compound, any premise
pub data Reached (S : Sequent) : Sequent → Type 0 where
  here : Reached S S
  from : {P : Sequent} (T : Sequent) → Reached S T → (s : Side) (i : ℕ) (x : Compound) → Holds T s i x
      → (n : ℕ) → get_elem? (premises s i x T) n ≡ some P → Reached S P

-- reached from a question within these limits
pub record ReachableUnder (L : Limits) (S : Sequent) : Type 0 where
  pub question : Sequent
  pub within : WithinUnder L question
  pub reached : Reached question S

abbrev pub Reachable : Sequent → Type 0
Reachable = ReachableUnder LIMITS
