-- The tests at a running sequent, in their order.
-- Assumes nothing.
use mathlib.Core.Path.{◌≡◌, refl, sym, ap, ◌∙◌, subst}
use mathlib.Core.Option.{Option, none, some}
use mathlib.Core.List.{List}
use Prim.Native.Nat.{ℕ, zero, suc, ◌^◌, ◌≤◌, ◌<◌}
use native.Mathlib.Omega.{arith}
use lib.Bits.{bit_and}
use lib.Count.{count_trailing_zeros}
use Rattle.calculus.specs.declared.Side.{Side}
use Rattle.calculus.specs.declared.Side.TheVariants.{Left, Right}
use Rattle.calculus.specs.Limits.{ROOM, LETTERS}
use Rattle.calculus.specs.Syntax.{Formula, Compound}
use Rattle.calculus.specs.Tree.{letters, state, common, twins, either, Way, lettered, paired, closing, first, tests, reduced, is_closed, is_open, is_due, afford, inner}
use Rattle.sequent.specs.declared.Running.{Running}
use Rattle.sequent.specs.declared.Reduction.{Reduction}
use Rattle.std.specs.Prelude.{Some, None}
use Rattle.calculus.specs.declared.Pair.{Pair}
use Rattle.sequent.specs.View.{view, count_of, name_at, sequent_of, Good}
use Rattle.sequent.specs.Compounds.{FoundAt, Found, Paired, compound_at, reduction_at}
use Rattle.sequent.proofs.Restarts.{found_inside, found_name}
use Rattle.sequent.proofs.Goods.{held, slot_name, masks_state, twins_are, found_left, found_right, found_nowhere}
use Rattle.prover.specs.Inner.{ReadyAt}
use Rattle.prover.proofs.Closings.{no_common, lowest_common}

-- ---- the reduction of the first compound

module _ {T items : List ℕ} {s : Running} (good : Good T items s) (t : Side) (i : ℕ) (found : FoundAt (view s items) t i) where
  pub first_inside : i < count_of t s
  first_inside = found_inside s items good.places good.room t i found

  pub first_name : LETTERS ≤ name_at t i (view s items)
  first_name = rw (slot_name T items s good t i first_inside) at (found_name s items good.places good.room t i found)

  abbrev x : Compound
  x = compound_at T t i (view s items)

  module _ {r : Reduction} (e : r ≡ reduction_at T t i (view s items)) (left : ℕ) (z : left ≡ 0 → ⊥) where
    pub due_reduce : is_due r.place.side r.place.at (compound_at T r.place.side r.place.at (view s items)) ≡ afford left (reduced t i x)
    due_reduce = ap (λ (u : Reduction). is_due u.place.side u.place.at (compound_at T u.place.side u.place.at (view s items))) e ∙ go left z
      where
        go : (l : ℕ) → (l ≡ 0 → ⊥) → is_due t i x ≡ afford l (reduced t i x)
        go zero z = absurd (z refl)
        go (suc l) z = refl

    pub due_ready : ReadyAt T items s left r
    due_ready =
        subst (ReadyAt T items s left) (sym e)
        (record {
          found = found;
          can = record { inside = first_inside; compound = first_name; exact = refl };
          affords = go left z;
        })
      where
        go : (l : ℕ) → (l ≡ 0 → ⊥) → 0 < l
        go zero z = absurd (z refl)
        go (suc l) z = omega arith

-- ---- the tests in their order

module _ {T items : List ℕ} {s : Running} (good : Good T items s) (left : ℕ) where
  abbrev lefts : List Formula
  lefts = (sequent_of T items s).on_left

  abbrev rights : List Formula
  rights = (sequent_of T items s).on_right

  closed_by : (w : Way) → closing (sequent_of T items s) ≡ some w → is_closed w ≡ inner left (sequent_of T items s)
  closed_by w e = ap (λ o. afford left (tests (sequent_of T items s) o (first lefts) (first rights))) (sym e)

  -- a letter stands on both sides
  pub inner_lettered : s.left.mask < 2 ^ LETTERS → s.right.mask < 2 ^ LETTERS → (bit_and s.left.mask s.right.mask ≡ 0 → ⊥)
      → is_closed (lettered (count_trailing_zeros LETTERS (bit_and s.left.mask s.right.mask))) ≡ inner left (sequent_of T items s)
  inner_lettered l r n =
      closed_by _ (ap (λ (o : Option ℕ). either o (twins lefts rights)) (lowest_common (letters lefts) (letters rights) s.left.mask s.right.mask (masks_state T items s good Left) (masks_state T items s good Right) l r n))

  -- no letter does
  module _ (apart : bit_and s.left.mask s.right.mask ≡ 0) where
    none_shared : common (letters lefts) (letters rights) ≡ none
    none_shared = no_common (letters lefts) (letters rights) s.left.mask s.right.mask (masks_state T items s good Left) (masks_state T items s good Right) apart

    pub not_closed : Paired (view s items) None → closing (sequent_of T items s) ≡ none
    not_closed h = rw (none_shared, twins_are T items s good None h)

    pub inner_paired : (p : Pair ℕ) → Paired (view s items) (Some p) → (is_closed (paired p.left p.right) ≡ inner left (sequent_of T items s)) × ((p.left < ROOM) × (p.right < ROOM))
    inner_paired p h = (
      closed_by (paired p.left p.right) (rw (none_shared, twins_are T items s good (Some p) h)),
      (omega (arith, h.0.left, held T items s good Left, good.room), omega (arith, h.0.right, held T items s good Right, good.room)),
    )

  pub inner_due : closing (sequent_of T items s) ≡ none → (t : Side) (i : ℕ) → FoundAt (view s items) t i
      → afford left (reduced t i (compound_at T t i (view s items))) ≡ inner left (sequent_of T items s)
  inner_due e Left i h = rw (e, found_left T items s good i h)
  inner_due e Right i h = let w = found_right T items s good i h in rw (e, w.0, w.1)

  pub inner_open : closing (sequent_of T items s) ≡ none → Found (view s items) None → (m : ℕ) → m ≡ state (letters (sequent_of T items s).on_left) → is_open m ≡ inner left (sequent_of T items s)
  inner_open e h m d = let w = found_nowhere T items s good h in rw (e, w.0, w.1) (ap is_open d)
