-- "Derivations": what the run writes, what a derivation is, and the checker's walk.
use Rattle.std.specs.Prelude.{◌≡◌, true, ◌&&◌, List, [], ◌∷◌, ◌++◌, ℕ, ◌+◌, eqb}
use Rattle.std.proofs.Math.Option.{Option, none, some}
use Rattle.std.proofs.Math.ListN.{get_elem?}
use Rattle.calculus.specs.declared.Side.{Side}
use Rattle.calculus.specs.declared.Side.TheVariants.{Left, Right}
use Rattle.calculus.specs.Fold.{find, choose}
use Rattle.calculus.specs.Limits.{CUT_SHORT, UNKNOWN_COMMAND, NO_FORMULA, OTHER_CONNECTIVE, NOT_CLOSED, BYTES_AFTER, NOT_EQUAL}
use Rattle.calculus.specs.Syntax.{AND, OR, IMPLIES, EQUIV, Connective, NOT, two, Formula, letter, neg, join, Compound, whole, Sequent, on_side}
use Rattle.calculus.specs.Bytes.{CONNECTIVE, code, same}
use Rattle.calculus.specs.Table.{Holds, premises}
use Rattle.calculus.specs.Tree.{letters, among, lettered, paired, Event, close, reduce, tree}

-- ---- commands: a byte and its operand, or two operands

pub data Order : Type 0 where
  CLOSE : Order
  PAIR : Order
  REDUCE : Side → Connective → Order

-- "52 to 56 reduce NOT to EQUIV on the left, 62 to 66 on the right"; "41 closes"; "the derivation command is 42"
abbrev pub order_code : Order → ℕ
order_code CLOSE = 0x41
order_code PAIR = 0x42
order_code (REDUCE Left k) = 0x50 + code (CONNECTIVE k)
order_code (REDUCE Right k) = 0x60 + code (CONNECTIVE k)

abbrev pub orders : List Order
orders =
    CLOSE
    ∷ PAIR
    ∷ REDUCE Left NOT
    ∷ REDUCE Left (two AND)
    ∷ REDUCE Left (two OR)
    ∷ REDUCE Left (two IMPLIES)
    ∷ REDUCE Left (two EQUIV)
    ∷ REDUCE Right NOT
    ∷ REDUCE Right (two AND)
    ∷ REDUCE Right (two OR)
    ∷ REDUCE Right (two IMPLIES)
    ∷ REDUCE Right (two EQUIV)
    ∷ []

-- the command of a byte
abbrev pub order : ℕ → Option Order
order b = find (λ o. eqb (order_code o) b) orders

-- "the operand is the formula's place on that side, from 0"; of a closing "its operand is the letter"; of 42 "two one-byte operands, left place and right place"
abbrev pub written : Event → List ℕ
written (close (lettered k)) = order_code CLOSE ∷ k ∷ []
written (close (paired i j)) = order_code PAIR ∷ i ∷ j ∷ []
written (reduce s i k) = order_code (REDUCE s k) ∷ i ∷ []

abbrev pub written_all : List Event → List ℕ
written_all [] = []
written_all (e ∷ es) = written e ++ written_all es

-- the derivation that the writer gives of a theorem
abbrev pub derivation : Sequent → List ℕ
derivation S = written_all (tree S).events

-- ---- what a derivation is, in any order of reduction

-- a letter stands on both sides
pub record Closes (k : ℕ) (S : Sequent) : Type 0 where
  pub lefts : among k (letters S.on_left) ≡ true
  pub rights : among k (letters S.on_right) ≡ true

-- a formula with connectives stands on both sides, at these places
pub record Pairs (i j : ℕ) (S : Sequent) : Type 0 where
  pub x : Compound
  pub lefts : get_elem? S.on_left i ≡ some (whole x)
  pub rights : get_elem? S.on_right j ≡ some (whole x)

-- "after a reduction with two premises comes the whole derivation of the first premise, then that of the second"
mutual
  pub data Derivation : Sequent → List ℕ → Type 0 where
    by_letter : {S : Sequent} {ds : List ℕ} (k : ℕ) → Closes k S → ds ≡ order_code CLOSE ∷ k ∷ [] → Derivation S ds
    by_pair : {S : Sequent} {ds : List ℕ} (i j : ℕ) → Pairs i j S → ds ≡ order_code PAIR ∷ i ∷ j ∷ [] → Derivation S ds
    by_rule : {S : Sequent} {ds es : List ℕ} (s : Side) (i : ℕ) (x : Compound) → Holds S s i x → Derivations (premises s i x S) es
        → ds ≡ order_code (REDUCE s x.connective) ∷ i ∷ es → Derivation S ds

  pub data Derivations : List Sequent → List ℕ → Type 0 where
    none_left : Derivations [] []
    then : {P : Sequent} {Ps : List Sequent} {ds es fs : List ℕ} → Derivation P es → Derivations Ps fs → ds ≡ es ++ fs → Derivations (P ∷ Ps) ds

-- ---- the checker

-- a fault's number; or the premises that wait now, after a command of two bytes; or closed, by one of three
pub data Move : Type 0 where
  fault : ℕ → Move
  waiting : List Sequent → Move
  shut : Move

-- the premises, if the command's connective is the formula's
abbrev pub matched : Connective → Side → ℕ → Compound → Sequent → Move
matched k s i x S = choose (eqb (code (CONNECTIVE k)) (code (CONNECTIVE x.connective))) (waiting (premises s i x S)) (fault OTHER_CONNECTIVE)

abbrev pub named : Side → ℕ → Connective → Sequent → Option Formula → Move
named s i k S none = fault NO_FORMULA
named s i k S (some (letter j)) = fault OTHER_CONNECTIVE
named s i k S (some (neg x)) = matched k s i (record { connective = NOT; f = x; g = x }) S
named s i k S (some (join b x y)) = matched k s i (record { connective = two b; f = x; g = y }) S

-- "the two formulas named by 42 differ or are letters"
abbrev pub equals : Formula → Formula → Move
equals (letter k) y = fault NOT_EQUAL
equals (neg x) y = choose (same (neg x) y) shut (fault NOT_EQUAL)
equals (join b x z) y = choose (same (join b x z) y) shut (fault NOT_EQUAL)

-- "22 for either place, then 26"
abbrev pub pairs : Option Formula → Option Formula → Move
pairs none y = fault NO_FORMULA
pairs (some x) none = fault NO_FORMULA
pairs (some x) (some y) = equals x y

-- one command with its operand, and the byte after that, if there is one, at the sequent that waits:
-- "for 42 the checker gives 20 if fewer than three bytes are left"
abbrev pub obey : Option Order → ℕ → Option ℕ → Sequent → Move
obey none i o S = fault UNKNOWN_COMMAND
obey (some CLOSE) i o S = choose (among i (letters S.on_left) && among i (letters S.on_right)) (waiting []) (fault NOT_CLOSED)
obey (some PAIR) i none S = fault CUT_SHORT
obey (some PAIR) i (some j) S = pairs (get_elem? S.on_left i) (get_elem? S.on_right j)
obey (some (REDUCE s k)) i o S = named s i k S (get_elem? (on_side s S) i)

pub data Checked : Type 0 where
  passes : Checked
  faulty : ℕ → ℕ → Checked

-- on to the bytes after two, or after three
abbrev pub proceed : Move → ℕ → (List Sequent → Checked) → (List Sequent → Checked) → Checked
proceed (fault n) at r t = faulty n at
proceed (waiting Ps) at r t = r Ps
proceed shut at r t = t []

-- the sequents that wait, one derivation after the other; "the command's place", or the first byte left over
abbrev pub check : List ℕ → List Sequent → ℕ → Checked
check [] [] at = passes
check [] (P ∷ Ps) at = faulty CUT_SHORT at
check (b ∷ []) [] at = faulty BYTES_AFTER at
check (b ∷ []) (P ∷ Ps) at = faulty CUT_SHORT at
check (b ∷ i ∷ bs) [] at = faulty BYTES_AFTER at
check (b ∷ i ∷ []) (P ∷ Ps) at = proceed (obey (order b) i none P) at (λ Qs. check [] (Qs ++ Ps) (at + 2)) (λ Qs. faulty CUT_SHORT at)
check (b ∷ i ∷ j ∷ bs) (P ∷ Ps) at =
    proceed (obey (order b) i (some j) P) at (λ Qs. check (j ∷ bs) (Qs ++ Ps) (at + 2)) (λ Qs. check bs (Qs ++ Ps) (at + 3))

abbrev pub checking : Sequent → List ℕ → Checked
checking S ds = check ds (S ∷ []) 0
