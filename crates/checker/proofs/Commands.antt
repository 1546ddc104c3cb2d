-- What a command says of the running sequent is what the documents say of the sequent that it stands for.
-- Assumes nothing.
use mathlib.Core.Path.{◌≡◌, refl, sym, ap, ◌∙◌, subst}
use mathlib.Core.Bool.{Bool, true, false, ◌&&◌}
use mathlib.Core.Option.{Option as Maybe, none, some}
use Rattle.std.specs.Prelude.{Result, Ok, Err}
use mathlib.Core.List.{List, [], ◌∷◌}
use Prim.Native.Nat.{ℕ, zero, suc, ◌+◌, ◌≤◌, ◌<◌, ◌%◌}
use native.Mathlib.Omega.{arith}
use lib.Dec.{eqb}
use lib.ListN.{length, get_or, get_elem?, length-map}
use borrow.Author.Tests.{ne_eqb}
use Rattle.calculus.specs.declared.Side.{Side}
use Rattle.calculus.specs.declared.Side.TheVariants.{Left, Right}
use Rattle.calculus.specs.Fold.{choose}
use Rattle.calculus.specs.Limits.{LETTERS, OTHER_CONNECTIVE, NOT_CLOSED}
use Rattle.calculus.specs.Syntax.{Connective, NOT, two, Formula, letter, Compound, compound, whole, Sequent, on_side}
use Rattle.calculus.specs.Bytes.{CONNECTIVE, code}
use Rattle.calculus.specs.Truth.{bit}
use Rattle.calculus.specs.Tree.{letters}
use Rattle.calculus.specs.Derivation.{Order as Command, CLOSE, Move as Said, fault, waiting, named, pairs, obey}
use Rattle.calculus.proofs.Trees.{bit_state, Letter}
use Rattle.calculus.proofs.Derivations.{named_whole, pairs_whole, equals_not}
use Rattle.question.specs.declared.connective.Connective.{Connective as Named}
use Rattle.question.specs.Connectives.{connective_of, command_of}
use Rattle.question.proofs.Connectives.{one_command}
use Rattle.sequent.specs.declared.Running.{Running}
use Rattle.sequent.specs.declared.Reduction.{Reduction}
use Rattle.sequent.specs.Names.{formula_in}
use Rattle.sequent.specs.View.{view, count_of, slot_of, name_at, sequent_of, Good}
use Rattle.sequent.specs.Compounds.{compound_at, reduction_at}
use Rattle.sequent.proofs.Namings.{letter_named, same_name}
use Rattle.sequent.proofs.Goods.{held, masks_state, equal_formulas, inside, slot_name, known_at, formula_at_lem, compounded, stands}
use Rattle.checker.specs.declared.Fault.{Fault}
use Rattle.checker.specs.declared.Fault.TheVariants.{NoFormula, OtherConnective, NotClosed, NotEqual}
use Rattle.checker.specs.declared.Move.{Move}
use Rattle.checker.specs.declared.Move.TheVariants.{Closed, Paired, Reduce}
use Rattle.checker.specs.Walks.{Moves}

-- ---- formulas at places

pub past : {X : Type 0} (xs : List X) (i : ℕ) → length xs ≤ i → get_elem? xs i ≡ none
past [] i h = refl
past (x ∷ xs) zero h = absurd (omega arith)
past (x ∷ xs) (suc i) h = past xs i (omega arith)

module _ {T items : List ℕ} {s : Running} (good : Good T items s) where
  count : (t : Side) → length (on_side t (sequent_of T items s)) ≡ count_of t s
  count Left = length-map (view s items).on_left (formula_in T) ∙ held T items s good Left
  count Right = length-map (view s items).on_right (formula_in T) ∙ held T items s good Right

  no_formula_at : (t : Side) (i : ℕ) → count_of t s ≤ i → get_elem? (on_side t (sequent_of T items s)) i ≡ none
  no_formula_at t i h = past (on_side t (sequent_of T items s)) i (omega (arith, count t))

  letter_at : (t : Side) (i : ℕ) → i < count_of t s → name_at t i (view s items) < LETTERS → formula_in T (name_at t i (view s items)) ≡ letter (name_at t i (view s items))
  letter_at t i h l = letter_named T good.nodes good.used good.few (name_at t i (view s items)) (known_at T items s good t i h) l

  -- ---- a reduction at the place i, which is the operand n

  module _ (t : Side) {i n m : ℕ} (at : ℕ) (k : Named) (read : i ≡ n) (counted : m ≡ count_of t s) where
    abbrev At : ℕ → Said
    At j = named t j (connective_of k) (sequent_of T items s) (get_elem? (on_side t (sequent_of T items s)) j)

    operand : (a : Result Move Fault) → Moves T items s at (At i) a → Moves T items s at (At n) a
    operand a = subst (λ (j : ℕ). Moves T items s at (At j) a) read

    pub no_formula : m ≤ i → Moves T items s at (At n) (Err (NoFormula at))
    no_formula h = operand (Err (NoFormula at)) (ap (named t i (connective_of k) (sequent_of T items s)) (no_formula_at t i (omega arith)), refl)

    -- the name read is the one at the place
    module _ {u : ℕ} (few : i < m) (slot : u ≡ slot_of t i s) where
      h : i < count_of t s
      h = omega arith

      name : get_or items u 0 ≡ name_at t i (view s items)
      name = rw slot (slot_name T items s good t i h)

      pub a_letter : get_or items u 0 < LETTERS → Moves T items s at (At n) (Err (OtherConnective at))
      a_letter l =
          operand (Err (OtherConnective at)) (
            ap (named t i (connective_of k) (sequent_of T items s)) (formula_at_lem T items s good t i h ∙ ap (λ (y : Formula). some y) (letter_at t i h (omega (arith, name)))),
            refl,
          )

      module _ (above : LETTERS ≤ get_or items u 0) {r : Reduction} (e : r ≡ reduction_at T t i (view s items)) where
        c : LETTERS ≤ name_at t i (view s items)
        c = omega (arith, name)

        abbrev x : Compound
        x = compound_at T t i (view s items)

        stands_there : At i ≡ named t i (connective_of k) (sequent_of T items s) (some (whole x))
        stands_there = ap (named t i (connective_of k) (sequent_of T items s)) (stands T items s good t i h c)

        command : r.node % 256 ≡ code (CONNECTIVE x.connective)
        command = ap (λ (u : Reduction). u.node % 256) e ∙ (compounded T items s good t i h c).command

        -- the node's command, and that of the connective
        module _ {b d : ℕ} (read_command : b ≡ r.node % 256) (due : d ≡ command_of k) where
          pub other_connective : (b ≡ d → ⊥) → Moves T items s at (At n) (Err (OtherConnective at))
          other_connective z = operand (Err (OtherConnective at)) (stands_there ∙ by x.connective (ne_eqb _ _ (λ e. z (read_command ∙ command ∙ sym e ∙ sym due))), refl)
            where
              by : (l : Connective) → eqb (command_of k) (code (CONNECTIVE l)) ≡ false → named t i (connective_of k) (sequent_of T items s) (some (compound l x.f x.g)) ≡ fault OTHER_CONNECTIVE
              by NOT e = rw e
              by (two o) e = rw e

          pub reduces : b ≡ d → Moves T items s at (At n) (Ok (Reduce r))
          reduces same =
              let l : connective_of k ≡ x.connective = one_command k x.connective (sym due ∙ sym same ∙ read_command ∙ command) in
              operand (Ok (Reduce r)) (subst (λ (u : Reduction). Moves T items s at (At i) (Ok (Reduce u))) (sym e) (
                stands_there ∙ ap (λ (l : Connective). named t i l (sequent_of T items s) (some (whole x))) l ∙ named_whole t i x (sequent_of T items s),
                record { inside = h; compound = c; exact = refl },
              ))

  -- ---- 42 at a left and a right place, u and v, which are the operands i and j

  module _ {i j u v : ℕ} (at : ℕ) (read_left : u ≡ i) (read_right : v ≡ j) where
    abbrev Both : Said
    Both = pairs (get_elem? (sequent_of T items s).on_left i) (get_elem? (sequent_of T items s).on_right j)

    pub no_left : s.left.count ≤ u → Moves T items s at Both (Err (NoFormula at))
    no_left h = (rw (no_formula_at Left i (omega arith)), refl)

    module _ (few_left : u < s.left.count) where
      here : i < s.left.count
      here = omega arith

      pub no_right : s.right.count ≤ v → Moves T items s at Both (Err (NoFormula at))
      no_right k = (rw (formula_at_lem T items s good Left i here, no_formula_at Right j (omega arith)), refl)

      -- the names read are those at the places
      module _ (few_right : v < s.right.count) where
        there : j < s.right.count
        there = omega arith

        abbrev left : ℕ
        left = name_at Left i (view s items)

        abbrev right : ℕ
        right = name_at Right j (view s items)

        name_left : get_or items u 0 ≡ left
        name_left = rw read_left (slot_name T items s good Left i here)

        name_right : get_or items (s.left.count + v) 0 ≡ right
        name_right = rw read_right (slot_name T items s good Right j there)

        not_equal : (formula_in T left ≡ formula_in T right → Letter (formula_in T left)) → Moves T items s at Both (Err (NotEqual at))
        not_equal f = (rw (formula_at_lem T items s good Left i here, formula_at_lem T items s good Right j there) (equals_not (formula_in T left) (formula_in T right) f), refl)

        pub letter_paired : get_or items u 0 < LETTERS → Moves T items s at Both (Err (NotEqual at))
        letter_paired l = not_equal (λ e. rw (letter_at Left i here (omega (arith, name_left))) tt)

        pub names_differ : (get_or items u 0 ≡ get_or items (s.left.count + v) 0 → ⊥) → Moves T items s at Both (Err (NotEqual at))
        names_differ z =
            let same = same_name T good.nodes good.used good.few good.distinct left right (known_at T items s good Left i here) (known_at T items s good Right j there) in
            not_equal (λ e. absurd (z (name_left ∙ same e ∙ sym name_right)))

        pub equal_paired : LETTERS ≤ get_or items u 0 → get_or items u 0 ≡ get_or items (s.left.count + v) 0 → Moves T items s at Both (Ok Paired)
        equal_paired c e =
            let p = equal_formulas T items s good i j (record { left = inside T items s good Left i here; right = inside T items s good Right j there; compound = omega (arith, name_left); equal = sym name_left ∙ e ∙ name_right }) in
            rw (p.lefts, p.rights) (pairs_whole p.x)

  -- ---- 41 at a letter

  abbrev S : Sequent
  S = sequent_of T items s

  module _ (i at : ℕ) (n : Maybe ℕ) {o : Maybe Command} (e : o ≡ some CLOSE) {r : Bool} (h : r ≡ (bit i s.left.mask && bit i s.right.mask)) where
    closing : obey o i n S ≡ choose r (waiting []) (fault NOT_CLOSED)
    closing = rw (e, h, masks_state T items s good Left, masks_state T items s good Right, bit_state i (letters S.on_left), bit_state i (letters S.on_right))

    pub closed : r ≡ true → Moves T items s at (obey o i n S) (Ok Closed)
    closed y = closing ∙ rw y

    pub not_closed : r ≡ false → Moves T items s at (obey o i n S) (Err (NotClosed at))
    not_closed z = (closing ∙ rw z, refl)
