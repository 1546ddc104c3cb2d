-- What bytes spell: formulas and sequents come back from their encoding.
-- Assumes nothing.
use mathlib.Core.Path.{◌≡◌, refl, sym, ap, ◌∙◌}
use mathlib.Core.Logic.{◌↔◌}
use mathlib.Core.Bool.{true, false≢true}
use mathlib.Core.Option.{Option, none, some}
use mathlib.Core.List.{List, [], ◌∷◌, ◌++◌, append_assoc, append-nil}
use Prim.Native.Nat.{ℕ, ◌+◌, ◌*◌, ◌≤◌}
use native.Mathlib.Omega.{arith}
use lib.Dec.{eqb}
use lib.ListN.{length, drop, length-append}
use lib.Seq.{drop-append-add}
use borrow.Author.Tests.{eqb-true, eq-eqb}
use Rattle.calculus.specs.declared.Side.{Side}
use Rattle.calculus.specs.declared.Side.TheVariants.{Left, Right}
use Rattle.calculus.specs.Fold.{fold, SUM}
use Rattle.calculus.specs.Limits.{LONGEST}
use Rattle.calculus.specs.Syntax.{AND, OR, IMPLIES, EQUIV, Connective, NOT, two, Formula, letter, neg, join, Sequent, connectives}
use Rattle.calculus.specs.Bytes.{Command, SIDE, LETTER, CONNECTIVE, code, commands, command, encode, same, encode_all, encode_side, encode_sequent, attach, spell, formulas, bytes, bytes_all, question, Within}
use Rattle.calculus.proofs.Folds.{and_both, found}

pub command_code : (k : Command) → command (code k) ≡ some k
command_code (SIDE Left) = refl
command_code (SIDE Right) = refl
command_code LETTER = refl
command_code (CONNECTIVE NOT) = refl
command_code (CONNECTIVE (two AND)) = refl
command_code (CONNECTIVE (two OR)) = refl
command_code (CONNECTIVE (two IMPLIES)) = refl
command_code (CONNECTIVE (two EQUIV)) = refl

pub command_byte : (b : ℕ) (k : Command) → command b ≡ some k → code k ≡ b
command_byte b k e = eqb-true (code k) b (found (λ j. eqb (code j) b) commands k e)

pub code_injective : (j k : Command) → code j ≡ code k → j ≡ k
code_injective j k e = cc (command_code j, command_code k, ap command e)

-- a connective's byte attaches it to what follows; a byte that begins no formula spells none
pub formulas_attach : (b : ℕ) (k : Connective) (l : List ℕ) → command b ≡ some (CONNECTIVE k) → formulas (b ∷ l) ≡ attach k (formulas l)
formulas_attach b NOT [] e = refl
formulas_attach b (two o) [] e = refl
formulas_attach b k (j ∷ l) e = rw e

pub formulas_side : (s : Side) (l : List ℕ) → formulas (code (SIDE s) ∷ l) ≡ []
formulas_side s [] = refl
formulas_side Left (j ∷ l) = refl
formulas_side Right (j ∷ l) = refl

pub formulas_encode : (x : Formula) (l : List ℕ) → formulas (encode x ++ l) ≡ x ∷ formulas l
formulas_encode (letter k) l = refl
formulas_encode (neg x) l = formulas_attach 2 NOT (encode x ++ l) refl ∙ rw (formulas_encode x l)
formulas_encode (join b x y) l =
    formulas_attach (code (CONNECTIVE (two b))) (two b) ((encode x ++ encode y) ++ l) (command_code (CONNECTIVE (two b)))
    ∙ rw (append_assoc, formulas_encode x (encode y ++ l), formulas_encode y l)

pub formulas_encode_all : (xs : List Formula) (l : List ℕ) → formulas (encode_all xs ++ l) ≡ xs ++ formulas l
formulas_encode_all [] l = refl
formulas_encode_all (x ∷ xs) l = rw (append_assoc, formulas_encode x (encode_all xs ++ l), formulas_encode_all xs l)

-- bytes begin with the formulas that they spell
pub spelt : (l : List ℕ) → (t : List ℕ) × (l ≡ encode_all (formulas l) ++ t)
spelt [] = ([], refl)
spelt (b ∷ []) = (b ∷ [], refl)
spelt (b ∷ k ∷ bs) = go (command b) refl (spelt bs) (spelt (k ∷ bs))
  where
    joined : (c : Connective) (xs : List Formula) (t : List ℕ) → code (CONNECTIVE c) ≡ b → k ∷ bs ≡ encode_all xs ++ t
        → (u : List ℕ) × (b ∷ k ∷ bs ≡ encode_all (attach c xs) ++ u)
    joined NOT [] t e h = (b ∷ k ∷ bs, refl)
    joined NOT (x ∷ xs) t e h = (t, rw (← e, h))
    joined (two o) [] t e h = (b ∷ k ∷ bs, refl)
    joined (two o) (x ∷ []) t e h = (b ∷ k ∷ bs, refl)
    joined (two o) (x ∷ y ∷ xs) t e h = (t, rw (← e, h, append_assoc (encode x) (encode y) (encode_all xs)))

    go : (o : Option Command) → command b ≡ o → (t : List ℕ) × (bs ≡ encode_all (formulas bs) ++ t) → (t : List ℕ) × (k ∷ bs ≡ encode_all (formulas (k ∷ bs)) ++ t)
        → (t : List ℕ) × (b ∷ k ∷ bs ≡ encode_all (spell o k (formulas bs) (formulas (k ∷ bs))) ++ t)
    go none e past here = (b ∷ k ∷ bs, refl)
    go (some (SIDE s)) e past here = (b ∷ k ∷ bs, refl)
    go (some LETTER) e past here = (past.0, rw (← command_byte b LETTER e) (ap (λ (l : List ℕ). 1 ∷ k ∷ l) past.1))
    go (some (CONNECTIVE c)) e past here = joined c (formulas (k ∷ bs)) here.0 (command_byte b (CONNECTIVE c) e) here.1

pub question_encode : (S : Sequent) → question (encode_sequent S) ≡ S
question_encode S =
    let l : formulas (encode_all S.on_left ++ encode_side Right S.on_right) ≡ S.on_left
    = formulas_encode_all S.on_left (encode_side Right S.on_right) ∙ rw (formulas_side Right, append-nil) in
    let r : formulas (encode_all S.on_right) ≡ S.on_right
    = ap formulas (sym (append-nil (encode_all S.on_right))) ∙ (formulas_encode_all S.on_right [] ∙ append-nil S.on_right) in
    let n : 4 + bytes_all S.on_left ≡ length (encode_side Left S.on_left) + 2 = omega arith in
    let d : formulas (drop (4 + bytes_all S.on_left) (encode_sequent S)) ≡ S.on_right
    = ap (λ (k : ℕ). formulas (drop k (encode_sequent S))) n
    ∙ ap formulas (drop-append-add (encode_side Left S.on_left) (encode_side Right S.on_right) 2) ∙ r in
    λ i. record { on_left = l i; on_right = (ap (λ (xs : List Formula). formulas (drop (4 + bytes_all xs) (encode_sequent S))) l ∙ d) i }

-- ---- equal formulas: the test says that they are equal, and "equal formulas are equal bytes"

pub same_eq : (x y : Formula) → same x y ≡ true → x ≡ y
same_eq (letter j) (letter k) e = ap letter (eqb-true j k e)
same_eq (letter j) (neg y) e = absurd (false≢true e)
same_eq (letter j) (join d z w) e = absurd (false≢true e)
same_eq (neg x) (letter k) e = absurd (false≢true e)
same_eq (neg x) (neg y) e = ap neg (same_eq x y e)
same_eq (neg x) (join d z w) e = absurd (false≢true e)
same_eq (join b x y) (letter k) e = absurd (false≢true e)
same_eq (join b x y) (neg z) e = absurd (false≢true e)
same_eq (join b x y) (join d z w) e =
    let h = and_both (eqb (code (CONNECTIVE (two b))) (code (CONNECTIVE (two d)))) _ e in
    let p = and_both (same x z) (same y w) h.1 in
    let o : b ≡ d = cc (code_injective (CONNECTIVE (two b)) (CONNECTIVE (two d)) (eqb-true _ _ h.0)) in
    rw (o, same_eq x z p.0, same_eq y w p.1)

pub same_self : (x : Formula) → same x x ≡ true
same_self (letter k) = eq-eqb k k refl
same_self (neg x) = same_self x
same_self (join b x y) = rw (eq-eqb (code (CONNECTIVE (two b))) (code (CONNECTIVE (two b))) refl, same_self x, same_self y)

pub same_exactly : (x y : Formula) → (same x y ≡ true) ↔ (x ≡ y)
same_exactly x y = (same_eq x y, λ e. rw (← e) (same_self x))

pub encode_injective : (x y : Formula) → encode x ≡ encode y → x ≡ y
encode_injective x y e = cc (formulas_encode x [], formulas_encode y [], ap (λ (l : List ℕ). formulas (l ++ [])) e)

pub same_bytes : (x y : Formula) → (same x y ≡ true) ↔ (encode x ≡ encode y)
same_bytes x y = (λ e. ap encode (same_eq x y e), λ e. (same_exactly x y).1 (encode_injective x y e))

-- ---- lengths

bytes_le : (x : Formula) → bytes x ≤ 2 + 3 * connectives x
bytes_le (letter k) = omega arith
bytes_le (neg x) = omega (arith, bytes_le x)
bytes_le (join b x y) = omega (arith, bytes_le x, bytes_le y, length-append (encode x) (encode y))

bytes_all_le : (xs : List Formula) → bytes_all xs ≤ 2 * length xs + 3 * fold SUM connectives xs
bytes_all_le [] = omega arith
bytes_all_le (x ∷ xs) = omega (arith, bytes_le x, bytes_all_le xs, length-append (encode x) (encode_all xs))

-- "so an accepted question has at most 212 bytes"
pub longest : (S : Sequent) → Within S → length (encode_sequent S) ≤ LONGEST
longest S w = omega (arith, w.lefts, w.rights, w.connectives, bytes_all_le S.on_left, bytes_all_le S.on_right, length-append (encode_side Left S.on_left) (encode_side Right S.on_right))
