-- Compounds on both sides: the search of the places.
-- Assumes nothing.
use Rattle.std.proofs.Common.{◌≡◌, sym, ◌∙◌, List, None, ℕ, ◌+◌, ◌≤◌, ◌<◌, arith, bit_and, length, drop, get_or, length-drop, length-take-le, get_or-take, get_or-drop}
use Rattle.calculus.specs.declared.Side.{Side}
use Rattle.calculus.specs.declared.Side.TheVariants.{Left, Right}
use Rattle.calculus.specs.Limits.{ROOM}
use Rattle.calculus.specs.Syntax.{on_side}
use Rattle.calculus.proofs.Folds.{each_at}
use Rattle.sequent.specs.declared.Running.{Running}
use Rattle.sequent.specs.View.{view, count_of, slot_of, name_at, Member, Covered}
use Rattle.sequent.specs.Compounds.{EqualAt, Paired}
use Rattle.sequent.proofs.Sets.{meeting}

-- no compound before left place i has an equal on the right
abbrev pub Before : Running → List ℕ → ℕ → Type 0
Before s items i = (m n : ℕ) → m < i → EqualAt (view s items) m n → ⊥

module _ (s : Running) (items : List ℕ) (places : length items ≡ ROOM) (room : s.left.count + s.right.count ≤ ROOM) where
  -- each side's names are as many as its count says
  pub held : (t : Side) → length (on_side t (view s items)) ≡ count_of t s
  held Left = length-take-le s.left.count items (omega (arith, places))
  held Right = length-take-le s.right.count (drop s.left.count items) (omega (arith, places, length-drop s.left.count items))

  pub slot_name : (t : Side) (i : ℕ) → i < count_of t s → get_or items (slot_of t i s) 0 ≡ name_at t i (view s items)
  slot_name Left i k = sym (get_or-take s.left.count items i 0 k)
  slot_name Right i k = sym (get_or-take s.right.count (drop s.left.count items) i 0 k ∙ get_or-drop s.left.count items i 0)

  -- the sets do not meet
  pub apart : Covered s items → bit_and s.left.set s.right.set ≡ 0 → Paired (view s items) None
  apart covered z m n e =
      meeting s.left.set s.right.set (name_at Left m (view s items)) e.compound
      (each_at (Member s.left.set) (view s items).on_left m 0 (covered Left) e.left)
      (rw e.equal (each_at (Member s.right.set) (view s items).on_right n 0 (covered Right) e.right)) z
