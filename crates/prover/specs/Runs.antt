-- What a run comes to, and the premises that it makes.
use Rattle.std.specs.Prelude.{◌≡◌, List, [], ◌∷◌, ℕ}
use Rattle.calculus.specs.declared.Kind.{Kind}
use Rattle.calculus.specs.declared.Kind.TheVariants.{Theorem, Refuted, Spent}
use Rattle.calculus.specs.declared.Outcome.{Outcome}
use Rattle.calculus.specs.Fold.{fold, SUM}
use Rattle.calculus.specs.Syntax.{Sequent, size}
use Rattle.calculus.specs.Tree.{outcome, pass}
use Rattle.sequent.specs.declared.Counted.{Counted}

-- after a premise of this kind the run goes on, or has ended
abbrev pub after : Kind → List Sequent → List Sequent
after Theorem Ps = Ps
after (Refuted σ) Ps = []
after Spent Ps = []

-- the premises that a run makes: "the first premise is finished, then the second is taken up"
abbrev pub made : ℕ → List Sequent → List Sequent
made b [] = []
made b (P ∷ Ps) = P ∷ after (outcome b P).kind (made (outcome b P).unspent Ps)

-- a run that ends here
abbrev pub ended : Kind → ℕ → ℕ → ℕ → Outcome
ended k b n m = record { kind = k; unspent = b; closings = n; pairings = m }

-- what a premise comes to; the stores made for it are its formulas
pub record Ran (b : ℕ) (P : Sequent) (r : Counted Outcome) : Type 0 where
  pub outcome : r.value ≡ outcome b P
  pub stores : r.stores ≡ size P

-- what a reduction with these premises comes to; the stores are the formulas of the premises made, together
pub record Comes (b : ℕ) (Ps : List Sequent) (r : Counted Outcome) : Type 0 where
  pub outcome : r.value ≡ pass outcome b Ps
  pub stores : r.stores ≡ fold SUM size (made b Ps)
