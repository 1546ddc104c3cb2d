-- A premise that is made: the sequent that it stands for, what holds of it, and its stores.
-- Assumes nothing.
use mathlib.Core.Path.{◌≡◌}
use mathlib.Core.List.{List}
use Prim.Native.Nat.{ℕ}
use Rattle.calculus.specs.Syntax.{size}
use Rattle.sequent.specs.Rule.{Placing}
use Rattle.sequent.specs.declared.Running.{Running}
use Rattle.sequent.specs.declared.Counted.{Counted}
use Rattle.sequent.specs.declared.Reduction.{Reduction}
use Rattle.sequent.specs.Names.{first_of, second_of}
use Rattle.sequent.specs.View.{view, start_of, sequent_of, Good}
use Rattle.sequent.specs.Passes.{Builds}
use Rattle.sequent.specs.Compounds.{Clear, FoundAt, premise_by, Makes}
use Rattle.sequent.proofs.Goods.{made_is, made_good, made_stores, made_clear}

-- letters alone stand before where it is searched from
pub record Made (T items : List ℕ) (s : Running) (r : Reduction) (p : Placing) (new : List ℕ) (b : Counted Running) : Type 0 where
  pub is : sequent_of T new b.value ≡ premise_by T items s r p
  pub good : Good T new b.value
  pub clear : Clear (start_of r.place.side r.place.at s) new b.value
  pub stores : b.stores ≡ size (premise_by T items s r p)

pub made : {T items : List ℕ} {s : Running} {r : Reduction} {p : Placing} → Makes T items s r p → FoundAt (view s items) r.place.side r.place.at
    → {before new : List ℕ} {b : Counted Running} → Builds r.place.side r.place.at p (first_of r.node) (second_of r.node) s items before new b → Made T items s r p new b
made {T} {items} {s} {r} {p} m found {before} {new} {b} builds =
    record {
      is = made_is T items s r p m before new b builds;
      good = made_good T items s r p m before new b builds;
      clear = made_clear T items s r p m before new b builds found;
      stores = made_stores T items s r p m before new b builds;
    }
