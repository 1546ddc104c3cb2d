-- "Numbers and places returned", row by row: what the definitions reply to a smallest example, and what document 01 prints.
-- The numbers of document 02's requests join them.
use Rattle.std.specs.Prelude.{List, [], ◌∷◌, ◌++◌, map, ℕ, ◌+◌, ◌*◌, replicate}
use Rattle.calculus.specs.Syntax.{AND, letter, join, Sequent}
use Rattle.calculus.specs.Bytes.{encode_sequent}
use Rattle.calculus.specs.States.{from}
use Rattle.calculus.specs.Reply.{Reply, decide_reply, derive, check_reply, list_states, spell, clauses_reply}
use Rattle.calculus.specs.Starred.{large, failing, left_only, repeated}

pub record Row : Type 0 where
  pub replied : Reply
  pub printed : Reply

-- a reply, then document 01's number and what it returns beside it
abbrev row : Reply → ℕ → List ℕ → Row
row r n vs = record { replied = r; printed = record { number = n; values = vs } }

abbrev read : List ℕ → Reply
read q = decide_reply q large

abbrev written : List ℕ → Reply
written q = (derive q large []).reply

abbrev listed : List ℕ → Reply
listed q = (list_states q []).reply

abbrev spelled : List ℕ → Reply
spelled q = (spell q []).reply

-- P left, P right; the sequent with no formulas; P left alone
abbrev theorem : List ℕ
theorem = 0x10 ∷ 0x01 ∷ 0x01 ∷ 0x00 ∷ 0x20 ∷ 0x01 ∷ 0x01 ∷ 0x00 ∷ []

abbrev empty : List ℕ
empty = 0x10 ∷ 0x00 ∷ 0x20 ∷ 0x00 ∷ []

abbrev lettered : List ℕ
lettered = 0x10 ∷ 0x01 ∷ 0x01 ∷ 0x00 ∷ 0x20 ∷ 0x00 ∷ []

-- NOT NOT Q; P OR P
abbrev negated_twice : List ℕ
negated_twice = 0x02 ∷ 0x02 ∷ 0x01 ∷ 0x01 ∷ []

abbrev positive_twice : List ℕ
positive_twice = 0x04 ∷ 0x01 ∷ 0x00 ∷ 0x01 ∷ 0x00 ∷ []

-- 16 letters left, another right
abbrev seventeen : Sequent
seventeen = record { on_left = map letter (from 0 16); on_right = letter 16 ∷ [] }

-- each letter once: two in each of 16 formulas a side
abbrev all : Sequent
all =
    record {
      on_left = map (λ k. join AND (letter (4 * k)) (letter (4 * k + 1))) (from 0 16);
      on_right = map (λ k. join AND (letter (4 * k + 2)) (letter (4 * k + 3))) (from 0 16);
    }

abbrev pub numbers : List Row
numbers =
    -- place 212: 1 TOO LONG, the question has more than 212 bytes
    row (read (replicate 213 0)) 1 (212 ∷ [])
    -- its length: 2 CUT, it ends where a command or operand is due
    ∷ row (read (0x10 ∷ [])) 2 (1 ∷ [])
    -- the byte's place: 3 WRONG COMMAND, a byte that may not come there
    ∷ row (read (0x10 ∷ 0x01 ∷ 0x07 ∷ [])) 3 (2 ∷ [])
    -- the operand's place: 4 MANY FORMULAS, a side's count is over 16
    ∷ row (read (0x10 ∷ 17 ∷ [])) 4 (1 ∷ [])
    -- the operand's place: 5 NO SUCH LAMP, a lamp number over 63 (document 02, d)
    ∷ row (read (0x10 ∷ 0x01 ∷ 0x01 ∷ 64 ∷ [])) 5 (3 ∷ [])
    -- lamp 63 is read, and its state has bit 63
    ∷ row (read (0x10 ∷ 0x01 ∷ 0x01 ∷ 63 ∷ 0x20 ∷ 0x00 ∷ [])) 0 (9223372036854775808 ∷ 0 ∷ 0 ∷ [])
    -- the command's place: 6 MANY CONNECTIVES, the 49th connective
    ∷ row (read (0x10 ∷ 0x01 ∷ replicate 49 0x02)) 6 (50 ∷ [])
    -- first such byte: 7 LEFT OVER, bytes follow the last formula
    ∷ row (read (empty ++ (0x00 ∷ []))) 7 (4 ∷ [])
    -- both counts: 9 SPENT, the reductions made equal the budget (case 10)
    ∷ row (decide_reply failing 7) 9 (7 ∷ 1 ∷ [])
    -- state, both counts: 10 NOT PROVED, a derivation is asked of a refuted question (case 9)
    ∷ row (written failing) 10 (3 ∷ 8 ∷ 1 ∷ [])
    -- length needed: 11 NO SPACE, the lent buffer is shorter than the derivation (case 2)
    ∷ row (written theorem) 11 (2 ∷ [])
    -- number of states: 11 NO SPACE, the lent slice is shorter than the list of refuting states (document 02, a)
    ∷ row (listed empty) 11 (1 ∷ [])
    -- length needed: 11 NO SPACE, the lent buffer is shorter than the spelling, after the reading refusals (document 02, e)
    ∷ row (spelled repeated) 11 (9 ∷ [])
    ∷ row (spelled (0x10 ∷ [])) 2 (1 ∷ [])
    -- that number: 12 MANY LAMPS, more than 16 different lamps occur (document 02, a)
    ∷ row (listed (encode_sequent seventeen)) 12 (17 ∷ [])
    -- up to 64 of them (document 02, d)
    ∷ row (listed (encode_sequent all)) 12 (64 ∷ [])
    -- place of the first one's first byte: 13, the right side has a formula (document 02, f)
    ∷ row (clauses_reply theorem) 13 (6 ∷ [])
    -- place of the formula's first byte: 14, a left formula is not built from letters, NOT of a letter and OR alone
    ∷ row (clauses_reply (left_only 2 (0x01 ∷ 0x00 ∷ negated_twice))) 14 (4 ∷ [])
    -- place of the formula's first byte: 15, it has two or more letters without NOT
    ∷ row (clauses_reply (left_only 2 (0x01 ∷ 0x00 ∷ positive_twice))) 15 (4 ∷ [])
    -- reading refusals first; then 13; then formula by formula 14 before 15
    ∷ row (clauses_reply (0x10 ∷ 0x01 ∷ (negated_twice ++ (0x20 ∷ 0x01 ∷ 0x01 ∷ 0x00 ∷ 0x00 ∷ [])))) 7 (10 ∷ [])
    ∷ row (clauses_reply (0x10 ∷ 0x01 ∷ (negated_twice ++ (0x20 ∷ 0x01 ∷ 0x01 ∷ 0x00 ∷ [])))) 13 (8 ∷ [])
    ∷ row (clauses_reply (left_only 1 (0x04 ∷ (positive_twice ++ negated_twice)))) 14 (2 ∷ [])
    ∷ row (clauses_reply (left_only 2 (positive_twice ++ negated_twice))) 15 (2 ∷ [])
    -- command's place: 20, fewer than two bytes left while a sequent waits
    ∷ row (check_reply theorem (0x41 ∷ [])) 20 (0 ∷ [])
    -- for 42 fewer than three (document 02, c)
    ∷ row (check_reply theorem (0x42 ∷ 0x00 ∷ [])) 20 (0 ∷ [])
    -- command's place: 21, unknown command
    ∷ row (check_reply theorem (0x40 ∷ 0x00 ∷ [])) 21 (0 ∷ [])
    -- command's place: 22, no formula at that place
    ∷ row (check_reply theorem (0x52 ∷ 0x01 ∷ [])) 22 (0 ∷ [])
    -- command's place: 23, the formula there is a letter or has another connective
    ∷ row (check_reply theorem (0x52 ∷ 0x00 ∷ [])) 23 (0 ∷ [])
    -- command's place: 24, the letter does not stand on both sides
    ∷ row (check_reply lettered (0x41 ∷ 0x00 ∷ [])) 24 (0 ∷ [])
    -- first such byte: 25, bytes after a complete derivation
    ∷ row (check_reply theorem (0x41 ∷ 0x00 ∷ 0x41 ∷ [])) 25 (2 ∷ [])
    -- the command's place: 26, the two formulas named by 42 differ or are letters (document 02, c)
    ∷ row (check_reply theorem (0x42 ∷ 0x00 ∷ 0x00 ∷ [])) 26 (0 ∷ [])
    ∷ []
