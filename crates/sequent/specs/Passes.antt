-- What one pass stores, and the premise that it makes.
use Rattle.std.specs.Prelude.{◌≡◌, List, ◌++◌, ℕ, ◌+◌, ◌-◌, ◌≤◌, length, take, drop}
use Rattle.std.specs.Int.Bits.{bit_or}
use Rattle.calculus.specs.declared.Side.{Side}
use Rattle.calculus.specs.Limits.{ROOM}
use Rattle.calculus.specs.Syntax.{Seq, size}
use Rattle.calculus.specs.Table.{premise}
use Rattle.sequent.specs.declared.Pass.{Pass}
use Rattle.sequent.specs.declared.Growing.{Growing}
use Rattle.sequent.specs.declared.Running.{Running}
use Rattle.sequent.specs.declared.Counted.{Counted}
use Rattle.sequent.specs.Rule.{Placing, parts_on, placed}
use Rattle.sequent.specs.View.{view, mask_of, set_of, letters_of, compounds_of}

-- room for n places more
pub record Fits (a : Pass) (n : ℕ) (new : List ℕ) : Type 0 where
  pub counted : a.stores ≤ a.to
  pub room : a.to + n ≤ ROOM
  pub size : length new ≡ ROOM

-- from one state of a pass to another these were stored behind what was stored before, each once, and nothing behind
-- them; the next old place is f
pub record Stored (a b : Pass) (f : ℕ) (xs old new : List ℕ) : Type 0 where
  pub held : take b.to new ≡ take a.to old ++ xs
  pub behind : drop b.to new ≡ drop b.to old
  pub size : length new ≡ length old
  pub to : b.to ≡ a.to + length xs
  pub stores : b.stores ≡ a.stores + length xs
  pub from : b.from ≡ f

-- the running sequent of a left half and a right one, and the stores of both; the left one's names end at a place of the list
abbrev pub both : Growing → Growing → ℕ → Counted Running
both l r n = record { value = record { left = record l.half { count = n }; right = record r.half { count = r.pass.to - n } }; stores = r.pass.stores }

-- the list of a sequent of names: the left side's, then the right side's
abbrev pub listed : Seq ℕ → List ℕ
listed N = N.on_left ++ N.on_right

-- a premise of a reduction at a place of a side. What is stored is its list, from the first place to the last, whatever the places
-- held before, and nothing behind it: so many stores as it has formulas
pub record Builds (t : Side) (at : ℕ) (p : Placing) (f g : ℕ) (s : Running) (old before new : List ℕ) (b : Counted Running) : Type 0 where
  pub held : view b.value new ≡ premise t at (view s old) (placed p f g)
  pub stored : take b.stores new ≡ listed (premise t at (view s old) (placed p f g))
  pub behind : drop b.stores new ≡ drop b.stores before
  pub stores : b.stores ≡ size (premise t at (view s old) (placed p f g))
  pub counted : b.value.left.count + b.value.right.count ≡ b.stores
  pub full : length new ≡ ROOM
  pub masks : (u : Side) → mask_of u b.value ≡ bit_or (mask_of u s) (letters_of (parts_on u p f g))
  pub sets : (u : Side) → set_of u b.value ≡ bit_or (set_of u s) (compounds_of (parts_on u p f g))
