-- What the reader's definition does with a byte, by the tests that the code makes.
-- Assumes nothing.
use mathlib.Core.Path.{◌≡◌, refl, sym, ap}
use mathlib.Core.Bool.{Bool, true, false}
use mathlib.Core.Option.{Option, none, some}
use mathlib.Core.List.{List}
use Prim.Native.Nat.{ℕ, zero, suc, ◌+◌, ◌-◌, ◌≤◌, ◌<◌}
use native.Mathlib.Numerals.{add-one, sub-one}
use native.Mathlib.Omega.{arith}
use lib.Dec.{eqb, leb}
use lib.ListN.{length, drop, get_or, drop_of_length-le}
use lib.Seq.{drop-cons}
use borrow.Author.Tests.{eqb-true, leb-true, eq-eqb, ne_eqb, le-leb, lt-leb, lt-ltb, le-ltb}
use Rattle.calculus.specs.declared.Side.{Side}
use Rattle.calculus.specs.declared.Side.TheVariants.{Left, Right}
use Rattle.calculus.specs.declared.Expected.{Expected}
use Rattle.calculus.specs.declared.Expected.TheVariants.{Head, Count, Formula, Operand, End}
use Rattle.calculus.specs.Fold.{choose}
use Rattle.calculus.specs.Limits.{FORMULAS, CONNECTIVES, LETTERS, CUT, WRONG_COMMAND, MANY_FORMULAS, NO_SUCH_LETTER, MANY_CONNECTIVES, LEFT_OVER}
use Rattle.calculus.specs.Syntax.{AND, OR, IMPLIES, EQUIV, Connective, NOT, two}
use Rattle.calculus.specs.Bytes.{Command, SIDE, LETTER, CONNECTIVE, code, command}
use Rattle.calculus.specs.Reading.{Reading, after, begin, advance, accepted, refused, ended, go_on, read}
use Rattle.calculus.proofs.Spelling.{command_byte}
use Rattle.question.specs.declared.Cursor.{Cursor}
use Rattle.question.specs.Answers.{expected_by, expected_of, done, read_from}

-- ---- bytes 2 to 6

pub connective_range : (k : Connective) → (2 ≤ code (CONNECTIVE k)) × (code (CONNECTIVE k) ≤ 6)
connective_range NOT = omega arith
connective_range (two AND) = omega arith
connective_range (two OR) = omega arith
connective_range (two IMPLIES) = omega arith
connective_range (two EQUIV) = omega arith

pub record Connects (b : ℕ) : Type 0 where
  pub connective : Connective
  pub named : command b ≡ some (CONNECTIVE connective)

pub connects : (b : ℕ) → 2 ≤ b → b ≤ 6 → Connects b
connects zero h k = absurd (omega arith)
connects (suc zero) h k = absurd (omega arith)
connects (suc (suc zero)) h k = record { connective = NOT; named = refl }
connects (suc (suc (suc zero))) h k = record { connective = two AND; named = refl }
connects (suc (suc (suc (suc zero)))) h k = record { connective = two OR; named = refl }
connects (suc (suc (suc (suc (suc zero))))) h k = record { connective = two IMPLIES; named = refl }
connects (suc (suc (suc (suc (suc (suc zero)))))) h k = record { connective = two EQUIV; named = refl }
connects (suc (suc (suc (suc (suc (suc (suc n))))))) h k = absurd (omega arith)

-- ---- the byte at a place

module _ (q : List ℕ) (c at : ℕ) where
  read_end : (e : Expected) → length q ≤ at → read (drop at q) e c at ≡ ended e at
  read_end e h = ap (λ (l : List ℕ). read l e c at) (drop_of_length-le q h)

  read_byte : (e : Expected) → at < length q → read (drop at q) e c at ≡ go_on (advance e c (get_or q at 0)) at (λ e' c'. read (drop (at + 1) q) e' c' (at + 1))
  read_byte e h = rw (add-one at) (ap (λ (l : List ℕ). read l e c at) (drop-cons q at 0 h))

module _ (q : List ℕ) (c at : ℕ) (s : Side) (h : at < length q) where
  read_head : get_or q at 0 ≡ code (SIDE s) → read (drop at q) (Head s) c at ≡ read (drop (at + 1) q) (Count s) c (at + 1)
  read_head e = rw (read_byte q c at (Head s) h, eq-eqb)

  read_no_head : (get_or q at 0 ≡ code (SIDE s) → ⊥) → read (drop at q) (Head s) c at ≡ refused WRONG_COMMAND at
  read_no_head d = rw (read_byte q c at (Head s) h, ne_eqb)

  read_count : get_or q at 0 ≤ FORMULAS → read (drop at q) (Count s) c at ≡ read (drop (at + 1) q) (after s (get_or q at 0)) c (at + 1)
  read_count l = rw (read_byte q c at (Count s) h, le-leb)

  read_no_count : FORMULAS < get_or q at 0 → read (drop at q) (Count s) c at ≡ refused MANY_FORMULAS at
  read_no_count l = rw (read_byte q c at (Count s) h, lt-leb)

  read_operand : (n : ℕ) → get_or q at 0 < LETTERS → read (drop at q) (Operand s n) c at ≡ read (drop (at + 1) q) (after s n) c (at + 1)
  read_operand n l = rw (read_byte q c at (Operand s n) h, lt-ltb)

  read_no_operand : (n : ℕ) → LETTERS ≤ get_or q at 0 → read (drop at q) (Operand s n) c at ≡ refused NO_SUCH_LETTER at
  read_no_operand n l = rw (read_byte q c at (Operand s n) h, le-ltb)

-- ---- what is expected at a cursor

after_more : (s : Side) (n : ℕ) → 1 ≤ n → after s n ≡ Formula s (n - 1)
after_more s zero h = absurd (omega arith)
after_more s (suc n) h = rw (sub-one (suc n))

-- the side whose formulas are due
abbrev side_by : ℕ → Side
side_by zero = Right
side_by (suc n) = Left

by_side : (n d : ℕ) → n ≤ 1 → expected_by n d ≡ after (side_by n) d
by_side zero d h = refl
by_side (suc zero) d h = refl
by_side (suc (suc n)) d h = absurd (omega arith)

-- a formula, by the code's tests
pub formula_right : (n d : ℕ) → 0 < d → n ≡ 0 → Formula Right (d - 1) ≡ expected_by n d
formula_right n d h e = rw e (sym (after_more Right d (omega arith)))

pub formula_left : (n d : ℕ) → 0 < d → (n ≡ 0 → ⊥) → (2 ≤ n → d ≡ 0) → Formula Left (d - 1) ≡ expected_by n d
formula_left zero d h e f = absurd (e refl)
formula_left (suc zero) d h e f = sym (after_more Left d (omega arith))
formula_left (suc (suc n)) d h e f = absurd (omega (arith, f (omega arith)))

pub first_head : (n d : ℕ) → (n ≡ 0 → ⊥) → (n ≡ 1 → ⊥) → Head Left ≡ expected_by n d
first_head zero d e f = absurd (e refl)
first_head (suc zero) d e f = absurd (f refl)
first_head (suc (suc n)) d e f = refl

-- where a formula is expected
pub formula_due : (n d : ℕ) (s : Side) (m : ℕ) → expected_by n d ≡ Formula s m → (1 ≤ d) × (n ≤ 1)
formula_due zero zero s m e = absurd cc
formula_due zero (suc d) s m e = omega arith
formula_due (suc zero) zero s m e = absurd cc
formula_due (suc zero) (suc d) s m e = omega arith
formula_due (suc (suc n)) d s m e = absurd cc

-- where a side's command is expected
pub record Opens (n : ℕ) (s : Side) : Type 0 where
  pub more : 1 ≤ n
  pub behind : (m : ℕ) → expected_by (n - 1) m ≡ after s m

pub opens : (n d : ℕ) (s : Side) → n ≤ 2 → expected_by n d ≡ Head s → Opens n s
opens zero zero s h e = absurd cc
opens zero (suc d) s h e = absurd cc
opens (suc zero) zero s h e = let i : Right ≡ s = cc in record { more = omega arith; behind = λ m. ap (λ (t : Side). after t m) i }
opens (suc zero) (suc d) s h e = absurd cc
opens (suc (suc zero)) d s h e = let i : Left ≡ s = cc in record { more = omega arith; behind = λ m. ap (λ (t : Side). after t m) i }
opens (suc (suc (suc n))) d s h e = absurd (omega arith)

-- where neither a side's command nor a formula is expected
pub end_expected : (n d : ℕ) → ((s : Side) → expected_by n d ≡ Head s → ⊥) → ((s : Side) (m : ℕ) → expected_by n d ≡ Formula s m → ⊥) → expected_by n d ≡ End
end_expected zero zero h f = refl
end_expected zero (suc d) h f = absurd (f Right d refl)
end_expected (suc zero) zero h f = absurd (h Right refl)
end_expected (suc zero) (suc d) h f = absurd (f Left d refl)
end_expected (suc (suc n)) d h f = absurd (h Left refl)

-- ---- at the end of the bytes

-- `done`, by its three tests
done_by : (l n d : ℕ) (at : ℕ) → choose (leb l at) (choose (eqb d 0) (eqb n 0) false) false ≡ true → (l ≤ at) × (n ≡ 0) × (d ≡ 0)
done_by l n d at e = go (leb l at) (eqb d 0) refl refl e
  where
    go : (t u : Bool) → leb l at ≡ t → eqb d 0 ≡ u → choose t (choose u (eqb n 0) false) false ≡ true → (l ≤ at) × (n ≡ 0) × (d ≡ 0)
    go true true h f e = (leb-true l at h, eqb-true n 0 e, eqb-true d 0 f)
    go true false h f e = absurd cc
    go false u h f e = absurd cc

module _ (q : List ℕ) (k : Cursor) where
  pub read_done : done q k ≡ true → read_from q k ≡ accepted
  read_done e =
      let t = done_by (length q) k.sides k.due k.at e in
      rw (t.1, t.2, read_end q k.connectives k.at End t.0)

  pub read_cut : length q ≤ k.at → done q k ≡ false → read_from q k ≡ refused CUT k.at
  read_cut h e = rw (read_end q k.connectives k.at (expected_of k) h) (go k.sides k.due (rw le-leb at e))
    where
      go : (n d : ℕ) → choose (eqb d 0) (eqb n 0) false ≡ false → ended (expected_by n d) k.at ≡ refused CUT k.at
      go zero zero e = absurd cc
      go zero (suc d) e = refl
      go (suc zero) zero e = refl
      go (suc zero) (suc d) e = refl
      go (suc (suc n)) d e = refl

-- ---- a command at a cursor

module _ (q : List ℕ) (k : Cursor) (h : k.at < length q) where
  pub read_left_over : expected_of k ≡ End → read_from q k ≡ refused LEFT_OVER k.at
  read_left_over e = rw (e, read_byte)

module _ (q : List ℕ) (k : Cursor) (s : Side) (e : expected_of k ≡ Head s) (h : k.at < length q) where
  pub head_other : (get_or q k.at 0 ≡ code (SIDE s) → ⊥) → read_from q k ≡ refused WRONG_COMMAND k.at
  head_other d = rw (e, read_no_head)

  pub head_cut : get_or q k.at 0 ≡ code (SIDE s) → length q ≤ k.at + 1 → read_from q k ≡ refused CUT (k.at + 1)
  head_cut b l = rw (e, read_head, read_end)

  pub head_many : get_or q k.at 0 ≡ code (SIDE s) → k.at + 1 < length q → FORMULAS < get_or q (k.at + 1) 0 → read_from q k ≡ refused MANY_FORMULAS (k.at + 1)
  head_many b i l = rw (e, read_head, read_no_count)

  pub head_read : k.sides ≤ 2 → get_or q k.at 0 ≡ code (SIDE s) → k.at + 1 < length q → get_or q (k.at + 1) 0 ≤ FORMULAS
      → read_from q k ≡ read (drop (k.at + 1 + 1) q) (expected_by (k.sides - 1) (get_or q (k.at + 1) 0)) k.connectives (k.at + 1 + 1)
  head_read o b i l = rw (e, read_head, read_count, (opens k.sides k.due s o e).behind (get_or q (k.at + 1) 0))

abbrev behind : List ℕ → Cursor → Expected → ℕ → Reading
behind q k e c = read (drop (k.at + 1) q) e c (k.at + 1)

module _ (q : List ℕ) (k : Cursor) (d : 1 ≤ k.due) (o : k.sides ≤ 1) (h : k.at < length q) where
  read_begun : read_from q k ≡ go_on (begin (command (get_or q k.at 0)) (side_by k.sides) (k.due - 1) k.connectives) k.at (behind q k)
  read_begun = rw (by_side k.sides k.due o, after_more (side_by k.sides) k.due d, read_byte)

  read_letter : get_or q k.at 0 ≡ 1 → read_from q k ≡ behind q k (Operand (side_by k.sides) (k.due - 1)) k.connectives
  read_letter e = rw (read_begun, e)

  pub letter_cut : get_or q k.at 0 ≡ 1 → length q ≤ k.at + 1 → read_from q k ≡ refused CUT (k.at + 1)
  letter_cut e l = rw (read_letter e, read_end)

  pub letter_none : get_or q k.at 0 ≡ 1 → k.at + 1 < length q → LETTERS ≤ get_or q (k.at + 1) 0 → read_from q k ≡ refused NO_SUCH_LETTER (k.at + 1)
  letter_none e i l = rw (read_letter e, read_no_operand)

  pub letter_read : get_or q k.at 0 ≡ 1 → k.at + 1 < length q → get_or q (k.at + 1) 0 < LETTERS
      → read_from q k ≡ read (drop (k.at + 1 + 1) q) (expected_by k.sides (k.due - 1)) k.connectives (k.at + 1 + 1)
  letter_read e i l = rw (read_letter e, read_operand, by_side k.sides (k.due - 1) o)

  pub read_other : (get_or q k.at 0 ≡ 1 → ⊥) → ((2 ≤ get_or q k.at 0) → (get_or q k.at 0 ≤ 6) → ⊥) → read_from q k ≡ refused WRONG_COMMAND k.at
  read_other l m = rw read_begun (go (command (get_or q k.at 0)) refl)
    where
      go : (o : Option Command) → command (get_or q k.at 0) ≡ o → go_on (begin o (side_by k.sides) (k.due - 1) k.connectives) k.at (behind q k) ≡ refused WRONG_COMMAND k.at
      go none e = refl
      go (some (SIDE t)) e = refl
      go (some LETTER) e = absurd (l (sym (command_byte _ LETTER e)))
      go (some (CONNECTIVE j)) e =
          let i = command_byte (get_or q k.at 0) (CONNECTIVE j) e in
          let r = connective_range j in
          absurd (m (omega arith) (omega arith))

module _ (q : List ℕ) (k : Cursor) (d : 1 ≤ k.due) (o : k.sides ≤ 1) (h : k.at < length q) (b : ℕ) (w : get_or q k.at 0 ≡ b) where
  connective_begun : read_from q k ≡ go_on (begin (command b) (side_by k.sides) (k.due - 1) k.connectives) k.at (behind q k)
  connective_begun = rw w at (read_begun q k d o h)

  pub connective_many : 2 ≤ b → b ≤ 6 → CONNECTIVES ≤ k.connectives → read_from q k ≡ refused MANY_CONNECTIVES k.at
  connective_many i l m = rw (connective_begun, (connects b i l).named) (go (connects b i l).connective)
    where
      go : (j : Connective) → go_on (begin (some (CONNECTIVE j)) (side_by k.sides) (k.due - 1) k.connectives) k.at (behind q k) ≡ refused MANY_CONNECTIVES k.at
      go NOT = rw le-ltb
      go (two o) = rw le-ltb

  pub connective_not : k.connectives < CONNECTIVES → b ≡ 2 → read_from q k ≡ behind q k (expected_by k.sides k.due) (k.connectives + 1)
  connective_not m e = rw (connective_begun, e, lt-ltb, by_side k.sides k.due o, after_more (side_by k.sides) k.due d, add-one k.connectives)

  pub connective_two : k.connectives < CONNECTIVES → 2 ≤ b → b ≤ 6 → (b ≡ 2 → ⊥) → read_from q k ≡ behind q k (expected_by k.sides (k.due + 1)) (k.connectives + 1)
  connective_two m i l n = rw (connective_begun, (connects b i l).named, by_side k.sides (k.due + 1) o) (go (connects b i l).connective (command_byte b _ (connects b i l).named))
    where
      more : after (side_by k.sides) (k.due + 1) ≡ Formula (side_by k.sides) (suc (k.due - 1))
      more = let z : k.due ≡ suc (k.due - 1) = omega arith in rw (add-one k.due) (ap (Formula (side_by k.sides)) z)

      go : (j : Connective) → code (CONNECTIVE j) ≡ b → go_on (begin (some (CONNECTIVE j)) (side_by k.sides) (k.due - 1) k.connectives) k.at (behind q k) ≡ behind q k (after (side_by k.sides) (k.due + 1)) (k.connectives + 1)
      go NOT e = absurd (n (sym e))
      go (two o) e = rw (lt-ltb, more, add-one k.connectives)
