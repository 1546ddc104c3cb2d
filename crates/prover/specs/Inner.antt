-- What the inner step answers.
use Rattle.std.specs.Prelude.{◌≡◌, List, ℕ, ◌<◌}
use Rattle.calculus.specs.Limits.{ROOM}
use Rattle.calculus.specs.Syntax.{Seq}
use Rattle.calculus.specs.Reached.{Reachable}
use Rattle.calculus.specs.Tree.{lettered, paired, Inner, is_closed, is_open, is_spent, is_due, inner}
use Rattle.sequent.specs.declared.Running.{Running}
use Rattle.sequent.specs.declared.Reduction.{Reduction}
use Rattle.sequent.specs.View.{view, sequent_of, Good}
use Rattle.sequent.specs.Compounds.{FoundAt, compound_at, Reducible}
use Rattle.prover.specs.declared.Finding.{Finding}
use Rattle.prover.specs.declared.Finding.TheVariants.{Closed, Paired, Open, Spent, Reduce}

-- document 01's outcome of the tests, for each answer, where these are the names
abbrev pub inner_of : List ℕ → Seq ℕ → Finding → Inner
inner_of T N (Closed k) = is_closed (lettered k)
inner_of T N (Paired p) = is_closed (paired p.left p.right)
inner_of T N (Open σ) = is_open σ
inner_of T N Spent = is_spent
inner_of T N (Reduce r) = is_due r.place.side r.place.at (compound_at T r.place.side r.place.at N)

-- a reduction that is due is that of the first compound, it can be made, and the budget has one left
pub record ReadyAt (T items : List ℕ) (s : Running) (left : ℕ) (r : Reduction) : Type 0 where
  pub found : FoundAt (view s items) r.place.side r.place.at
  pub can : Reducible T items s r
  pub affords : 0 < left

-- that, or places of a running sequent
abbrev pub Ready : List ℕ → List ℕ → Running → ℕ → Finding → Type 0
Ready T items s left (Closed k) = Unit {0}
Ready T items s left (Paired p) = (p.left < ROOM) × (p.right < ROOM)
Ready T items s left (Open σ) = Unit {0}
Ready T items s left Spent = Unit {0}
Ready T items s left (Reduce r) = ReadyAt T items s left r

pub record Stepped (T items : List ℕ) (s : Running) (left : ℕ) (r : Finding) : Type 0 where
  pub inner : inner_of T (view s items) r ≡ inner left (sequent_of T items s)
  pub ready : Ready T items s left r

-- the reduction of the first compound can be made, of a sequent that is reached
pub record First (T items : List ℕ) (s : Running) (r : Reduction) : Type 0 where
  pub good : Good T items s
  pub found : FoundAt (view s items) r.place.side r.place.at
  pub can : Reducible T items s r
  pub reached : Reachable (sequent_of T items s)
