-- Reading a question: "the reader decides from what it still expects which command may come at this byte".
use Rattle.std.proofs.Math.Option.{Option, none, some}
use Rattle.std.specs.Prelude.{List, [], ◌∷◌, ℕ, zero, suc, eqb, ltb, leb, length}
use Rattle.calculus.specs.declared.Side.{Side}
use Rattle.calculus.specs.declared.Side.TheVariants.{Left, Right}
use Rattle.calculus.specs.declared.Expected.{Expected}
use Rattle.calculus.specs.declared.Expected.TheVariants.{Head, Count, Formula, Operand, End}
use Rattle.calculus.specs.Fold.{choose}
use Rattle.calculus.specs.Limits.{Limits, LIMITS, TOO_LONG, CUT, WRONG_COMMAND, MANY_FORMULAS, NO_SUCH_LETTER, MANY_CONNECTIVES, LEFT_OVER}
use Rattle.calculus.specs.Syntax.{NOT, two}
use Rattle.calculus.specs.Bytes.{Command, SIDE, LETTER, CONNECTIVE, code, command}

-- a number of the table, or what is expected next and the connectives so far
pub data Onward : Type 0 where
  refuse : ℕ → Onward
  onward : Expected → ℕ → Onward

-- what is expected where so many formulas of a side are still due
abbrev pub after : Side → ℕ → Expected
after s (suc n) = Formula s n
after Left zero = Head Right
after Right zero = End

-- a formula's command under limits L, with n more formulas of side s due after it and c connectives before it
abbrev pub begin_under : Limits → Option Command → Side → ℕ → ℕ → Onward
begin_under L none s n c = refuse WRONG_COMMAND
begin_under L (some (SIDE t)) s n c = refuse WRONG_COMMAND
begin_under L (some LETTER) s n c = onward (Operand s n) c
begin_under L (some (CONNECTIVE NOT)) s n c = choose (ltb c L.connectives) (onward (Formula s n) (suc c)) (refuse MANY_CONNECTIVES)
begin_under L (some (CONNECTIVE (two b))) s n c = choose (ltb c L.connectives) (onward (Formula s (suc n)) (suc c)) (refuse MANY_CONNECTIVES)

-- the byte b where e is expected
abbrev pub advance_under : Limits → Expected → ℕ → ℕ → Onward
advance_under L (Head s) c b = choose (eqb b (code (SIDE s))) (onward (Count s) c) (refuse WRONG_COMMAND)
advance_under L (Count s) c b = choose (leb b L.formulas) (onward (after s b) c) (refuse MANY_FORMULAS)
advance_under L (Formula s n) c b = begin_under L (command b) s n c
advance_under L (Operand s n) c b = choose (ltb b L.letters) (onward (after s n) c) (refuse NO_SUCH_LETTER)
advance_under L End c b = refuse LEFT_OVER

pub data Reading : Type 0 where
  accepted : Reading
  refused : ℕ → ℕ → Reading

-- the end of the bytes
abbrev pub ended : Expected → ℕ → Reading
ended (Head s) at = refused CUT at
ended (Count s) at = refused CUT at
ended (Formula s n) at = refused CUT at
ended (Operand s n) at = refused CUT at
ended End at = accepted

abbrev pub go_on : Onward → ℕ → (Expected → ℕ → Reading) → Reading
go_on (refuse n) at r = refused n at
go_on (onward e c) at r = r e c

-- "reading from the first byte on; the earliest decides": each number comes with the place of the byte at hand, or the length
abbrev pub read_under : Limits → List ℕ → Expected → ℕ → ℕ → Reading
read_under L [] e c at = ended e at
read_under L (b ∷ bs) e c at = go_on (advance_under L e c b) at (λ e' c'. read_under L bs e' c' (suc at))

-- "1 comes before all"
abbrev pub reading_under : Limits → List ℕ → Reading
reading_under L q = choose (ltb L.longest (length q)) (refused TOO_LONG L.longest) (read_under L q (Head Left) 0 0)

-- ---- under document 01's limits, as the requests have them

abbrev pub begin : Option Command → Side → ℕ → ℕ → Onward
begin = begin_under LIMITS

abbrev pub advance : Expected → ℕ → ℕ → Onward
advance = advance_under LIMITS

abbrev pub read : List ℕ → Expected → ℕ → ℕ → Reading
read = read_under LIMITS

abbrev pub reading : List ℕ → Reading
reading = reading_under LIMITS
