-- The limits of document 01 and the numbers of its last table, with those of document 02's requests, each under one name.
use Rattle.std.specs.Prelude.{ℕ, ◌+◌, ◌*◌, ◌≤◌}

-- the bytes of a question
abbrev pub LONGEST : ℕ
LONGEST = 212

-- the formulas of a side
abbrev pub FORMULAS : ℕ
FORMULAS = 16

-- the connectives of a question
abbrev pub CONNECTIVES : ℕ
CONNECTIVES = 48

-- the letters ("lamps"), from 0, and the bits of a state
abbrev pub LETTERS : ℕ
LETTERS = 64

-- the different letters of a question whose refuting states are listed
abbrev pub VARIED : ℕ
VARIED = 16

-- ---- any limits

-- what a question has at most
pub record Limits : Type 0 where
  pub longest : ℕ
  pub formulas : ℕ
  pub connectives : ℕ
  pub letters : ℕ

-- document 01's, as the requests have them
abbrev pub LIMITS : Limits
LIMITS = record { longest = LONGEST; formulas = FORMULAS; connectives = CONNECTIVES; letters = LETTERS }

-- the formulas of a running sequent: as many as both sides may have, and one for each connective
abbrev pub room : Limits → ℕ
room L = 2 * L.formulas + L.connectives

abbrev pub ROOM : ℕ
ROOM = room LIMITS

-- the letters before document 02's request d, and the limits with them
abbrev pub LETTERS_BEFORE : ℕ
LETTERS_BEFORE = 32

abbrev pub LIMITS_BEFORE : Limits
LIMITS_BEFORE = record { longest = LONGEST; formulas = FORMULAS; connectives = CONNECTIVES; letters = LETTERS_BEFORE }

-- what has at most L has at most M
pub record Wider (L M : Limits) : Type 0 where
  pub longest : L.longest ≤ M.longest
  pub formulas : L.formulas ≤ M.formulas
  pub connectives : L.connectives ≤ M.connectives
  pub letters : L.letters ≤ M.letters

-- ---- refusals of a question, met in reading

abbrev pub TOO_LONG : ℕ
TOO_LONG = 1

abbrev pub CUT : ℕ
CUT = 2

abbrev pub WRONG_COMMAND : ℕ
WRONG_COMMAND = 3

abbrev pub MANY_FORMULAS : ℕ
MANY_FORMULAS = 4

abbrev pub NO_SUCH_LETTER : ℕ
NO_SUCH_LETTER = 5

abbrev pub MANY_CONNECTIVES : ℕ
MANY_CONNECTIVES = 6

abbrev pub LEFT_OVER : ℕ
LEFT_OVER = 7

-- ---- refusals of a derivation; 8 was among them, and is not used again

abbrev pub SPENT : ℕ
SPENT = 9

abbrev pub NOT_PROVED : ℕ
NOT_PROVED = 10

abbrev pub NO_SPACE : ℕ
NO_SPACE = 11

-- ---- refusal of a list of states

abbrev pub MANY_LETTERS : ℕ
MANY_LETTERS = 12

-- ---- refusals of the clause profile

abbrev pub RIGHT_FORMULA : ℕ
RIGHT_FORMULA = 13

abbrev pub NOT_CLAUSE : ℕ
NOT_CLAUSE = 14

abbrev pub MANY_POSITIVE : ℕ
MANY_POSITIVE = 15

-- ---- faults that the checker finds

abbrev pub CUT_SHORT : ℕ
CUT_SHORT = 20

abbrev pub UNKNOWN_COMMAND : ℕ
UNKNOWN_COMMAND = 21

abbrev pub NO_FORMULA : ℕ
NO_FORMULA = 22

abbrev pub OTHER_CONNECTIVE : ℕ
OTHER_CONNECTIVE = 23

abbrev pub NOT_CLOSED : ℕ
NOT_CLOSED = 24

abbrev pub BYTES_AFTER : ℕ
BYTES_AFTER = 25

abbrev pub NOT_EQUAL : ℕ
NOT_EQUAL = 26
