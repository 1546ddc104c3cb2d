-- Document 01's number and place of each answer of the reader.
use Rattle.std.specs.Prelude.{◌≡◌, Bool, false, List, ℕ, zero, suc, ◌+◌, ◌≤◌, eqb, leb, length, drop, Result, Ok, Err}
use Rattle.calculus.specs.declared.Side.TheVariants.{Left, Right}
use Rattle.calculus.specs.declared.Expected.{Expected}
use Rattle.calculus.specs.declared.Expected.TheVariants.{Head}
use Rattle.calculus.specs.Fold.{choose}
use Rattle.calculus.specs.Limits.{LONGEST, FORMULAS, CONNECTIVES, TOO_LONG, CUT, WRONG_COMMAND, MANY_FORMULAS, NO_SUCH_LETTER, MANY_CONNECTIVES, LEFT_OVER}
use Rattle.calculus.specs.Reading.{Reading, accepted, refused, after, read}
use Rattle.question.specs.declared.Refusal.{Refusal}
use Rattle.question.specs.declared.Refusal.TheVariants.{TooLong, Cut, WrongCommand, ManyFormulas, NoSuchLetter, ManyConnectives, LeftOver}
use Rattle.question.specs.declared.Cursor.{Cursor}

abbrev pub number_of : Refusal → ℕ
number_of TooLong = TOO_LONG
number_of (Cut at) = CUT
number_of (WrongCommand at) = WRONG_COMMAND
number_of (ManyFormulas at) = MANY_FORMULAS
number_of (NoSuchLetter at) = NO_SUCH_LETTER
number_of (ManyConnectives at) = MANY_CONNECTIVES
number_of (LeftOver at) = LEFT_OVER

abbrev pub place_of : Refusal → ℕ
place_of TooLong = LONGEST
place_of (Cut at) = at
place_of (WrongCommand at) = at
place_of (ManyFormulas at) = at
place_of (NoSuchLetter at) = at
place_of (ManyConnectives at) = at
place_of (LeftOver at) = at

-- the reader's answer, whatever it gives with an accepted question
abbrev pub reading_of : {A : Type 0} → Result A Refusal → Reading
reading_of (Ok a) = accepted
reading_of (Err r) = refused (number_of r) (place_of r)

-- ---- from a cursor on

-- what is expected where so many sides' commands are to come and so many formulas are due
abbrev pub expected_by : ℕ → ℕ → Expected
expected_by zero d = after Right d
expected_by (suc zero) d = after Left d
expected_by (suc (suc n)) d = Head Left

-- what is expected at a cursor
abbrev pub expected_of : Cursor → Expected
expected_of k = expected_by k.sides k.due

-- the end is expected at a cursor, and is there
abbrev pub done : List ℕ → Cursor → Bool
done q k = choose (leb (length q) k.at) (choose (eqb k.due 0) (eqb k.sides 0) false) false

-- a cursor in a question that is not too long; no formula is due before the first side's command
pub record Standing (q : List ℕ) (k : Cursor) : Type 0 where
  pub short : length q ≤ LONGEST
  pub inside : k.at ≤ length q
  pub room : k.due ≤ FORMULAS + k.connectives
  pub counted : k.connectives ≤ CONNECTIVES
  pub two_sides : k.sides ≤ 2
  pub first : 2 ≤ k.sides → k.due ≡ 0

-- a next cursor is one, and not before a place
abbrev pub Onwards : List ℕ → ℕ → Result Cursor Refusal → Type 0
Onwards q at (Ok k) = Standing q k × (at ≤ k.at)
Onwards q at (Err r) = Unit {0}

-- the reading from a cursor on
abbrev pub read_from : List ℕ → Cursor → Reading
read_from q k = read (drop k.at q) (expected_of k) k.connectives k.at

-- the reading after a step
abbrev pub steps : List ℕ → Result Cursor Refusal → Reading
steps q (Ok k) = read_from q k
steps q (Err r) = refused (number_of r) (place_of r)
