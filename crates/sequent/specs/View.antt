-- What a running sequent stands for.
use Rattle.std.specs.Prelude.{◌≡◌, true, List, [], ◌∷◌, map, ℕ, ◌+◌, ◌%◌, ◌^◌, ◌≤◌, ltb, length, take, drop, get_or}
use Rattle.std.specs.Int.Bits.{bit_or}
use Rattle.calculus.specs.declared.Side.{Side}
use Rattle.calculus.specs.declared.Side.TheVariants.{Left, Right}
use Rattle.calculus.specs.Fold.{Each, choose}
use Rattle.calculus.specs.Limits.{ROOM, LETTERS, CONNECTIVES}
use Rattle.calculus.specs.Syntax.{Seq, Sequent, on_side}
use Rattle.calculus.specs.Truth.{bit}
use Rattle.sequent.specs.declared.Half.{Half}
use Rattle.sequent.specs.declared.Running.{Running}
use Rattle.sequent.specs.Names.{formula_in, Known, Distinct}

-- ---- names in places

-- the names of a running sequent: the left side's, then the right side's
abbrev pub view : Running → List ℕ → Seq ℕ
view s items = record { on_left = take s.left.count items; on_right = take s.right.count (drop s.left.count items) }

abbrev pub half : Side → Running → Half
half Left s = s.left
half Right s = s.right

abbrev pub count_of : Side → Running → ℕ
count_of t s = (half t s).count

abbrev pub mask_of : Side → Running → ℕ
mask_of t s = (half t s).mask

abbrev pub set_of : Side → Running → ℕ
set_of t s = (half t s).set

-- where the name at a place of a side stands in the list
abbrev pub slot_of : Side → ℕ → Running → ℕ
slot_of Left i s = i
slot_of Right i s = s.left.count + i

-- where a side's names end in the list
abbrev pub end_of : Side → Running → ℕ
end_of Left s = s.left.count
end_of Right s = s.left.count + s.right.count

-- where a premise of a reduction at a place of a side is searched from
abbrev pub start_of : Side → ℕ → Running → ℕ
start_of Left i s = i
start_of Right i s = s.left.count

-- the name at a place of a side
abbrev pub name_at : Side → ℕ → Seq ℕ → ℕ
name_at t i N = get_or (on_side t N) i 0

-- ---- the formulas that they stand for

abbrev pub named : {X Y : Type 0} → (X → Y) → Seq X → Seq Y
named φ S = record { on_left = map φ S.on_left; on_right = map φ S.on_right }

abbrev pub sequent_of : List ℕ → List ℕ → Running → Sequent
sequent_of T items s = named (formula_in T) (view s items)

-- ---- letters

-- the bits of names together
abbrev pub bits_by : (ℕ → ℕ) → List ℕ → ℕ
bits_by β [] = 0
bits_by β (x ∷ xs) = bit_or (β x) (bits_by β xs)

-- a letter's bit; none for a compound
abbrev pub bit_of : ℕ → ℕ
bit_of x = choose (ltb x LETTERS) (2 ^ x) 0

abbrev pub letters_of : List ℕ → ℕ
letters_of = bits_by bit_of

-- each side's mask is its letters
abbrev pub Masked : Running → List ℕ → Type 0
Masked s items = (t : Side) → mask_of t s ≡ letters_of (on_side t (view s items))

-- ---- compounds

-- a compound's bit; none for a letter
abbrev pub compound_bit : ℕ → ℕ
compound_bit x = choose (ltb x LETTERS) 0 (2 ^ (x % 64))

abbrev pub compounds_of : List ℕ → ℕ
compounds_of = bits_by compound_bit

-- a compound's bit is in a set
abbrev pub Member : ℕ → ℕ → Type 0
Member a x = LETTERS ≤ x → bit (x % 64) a ≡ true

-- each side's set holds its compounds, and maybe more
abbrev pub Covered : Running → List ℕ → Type 0
Covered s items = (t : Side) → Each (Member (set_of t s)) (on_side t (view s items))

-- a side with the bits of a name
abbrev pub grown : ℕ → Half → Half
grown x h = record { count = h.count; mask = bit_or h.mask (bit_of x); set = bit_or h.set (compound_bit x) }

-- and of names
abbrev pub joined : List ℕ → Half → Half
joined xs h = record { count = h.count; mask = bit_or h.mask (letters_of xs); set = bit_or h.set (compounds_of xs) }

-- ---- what holds of one that a run or a check meets

-- used: how many nodes are in use
pub record Good (T items : List ℕ) (s : Running) : Type 0 where
  pub nodes : length T ≤ CONNECTIVES
  pub places : length items ≡ ROOM
  pub room : s.left.count + s.right.count ≤ ROOM
  pub used : ℕ
  pub few : used ≤ length T
  pub distinct : Distinct T used
  pub known : (t : Side) → Each (Known T used) (on_side t (view s items))
  pub masks : Masked s items
  pub sets : Covered s items
