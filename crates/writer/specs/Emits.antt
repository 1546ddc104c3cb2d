-- What the writer stores of premises, one after the other.
use Rattle.std.specs.Prelude.{◌≡◌, List, [], ◌∷◌, ◌++◌, ℕ, length}
use Rattle.std.proofs.lemmas.List.Edits.{sets}
use Rattle.calculus.specs.declared.Kind.TheVariants.{Theorem}
use Rattle.calculus.specs.Syntax.{Sequent}
use Rattle.calculus.specs.Derivation.{derivation}
use Rattle.calculus.specs.Tree.{tree}
use Rattle.sequent.specs.declared.Counted.{Counted}

-- its tree ends in a theorem
abbrev pub Provable : Sequent → Type 0
Provable S = (tree S).end ≡ Theorem

-- "the whole derivation of the first premise, then that of the second"
abbrev pub derivations : List Sequent → List ℕ
derivations [] = []
derivations (P ∷ Ps) = derivation P ++ derivations Ps

-- these bytes at the start of what is lent, and so many stores made for premises
pub record Emits (bytes : List ℕ) (count : ℕ) (old new : List ℕ) (e : Counted ℕ) : Type 0 where
  pub long : e.value ≡ length bytes
  pub written : new ≡ sets old 0 bytes
  pub stores : e.stores ≡ count
