-- The sides of an accepted question, and its formulas, where they stand in the bytes.
-- Assumes nothing.
use mathlib.Core.Path.{◌≡◌, refl, sym, ap, ◌∙◌}
use mathlib.Core.Option.{none, some}
use mathlib.Core.List.{List, [], ◌∷◌, ◌++◌, append_assoc}
use Prim.Native.Nat.{ℕ, zero, suc, ◌+◌, ◌-◌, ◌≤◌, ◌<◌}
use native.Mathlib.Decide.{dec_lt}
use native.Mathlib.Omega.{arith}
use lib.ListN.{length, take, drop, get_or, get_elem?, length-append, length-drop}
use lib.Seq.{get_or-append-add, take-append_seam, take-length}
use Rattle.std.specs.Prelude.{Option, Some, None, MatchOption}
use Rattle.std.specs.Option.{UnwrapsOrElse}
use Rattle.calculus.specs.declared.Part.{Part}
use Rattle.calculus.specs.declared.Side.{Side}
use Rattle.calculus.specs.declared.Side.TheVariants.{Left, Right}
use Rattle.calculus.specs.Fold.{Each}
use Rattle.calculus.specs.Syntax.{Formula, on_side}
use Rattle.calculus.specs.Bytes.{encode, encode_all, encode_side, encode_sequent, formulas, bytes, bytes_all, question, side_start, start_of, Lettered}
use Rattle.calculus.specs.Reading.{Reading, accepted, refused, reading}
use Rattle.calculus.specs.Reply.{formula_part, formula_bytes}
use Rattle.calculus.proofs.Spelling.{spelt}
use Rattle.calculus.proofs.Readings.{accepted_question}
use Rattle.question.specs.Positions.{Well, first_of, formula_at, part_bytes}
use Rattle.question.proofs.Walks.{skip_formulas, end_inside}

-- a side's formulas are those spelt from where it starts
pub side_formulas : (q : List ℕ) (s : Side) → formulas (drop (side_start s (question q)) q) ≡ on_side s (question q)
side_formulas q Left = refl
side_formulas q Right = refl

-- as many formulas as a side has, from where it starts, are that side
pub record SideRead (q : List ℕ) (s : Side) (at n : ℕ) : Type 0 where
  pub enough : n ≤ length (formulas (drop at q))
  pub all : take n (formulas (drop at q)) ≡ on_side s (question q)
  pub lettered : Each Lettered (take n (formulas (drop at q)))

module _ (q : List ℕ) (a : reading q ≡ accepted) where
  side_lettered : (s : Side) → Each Lettered (on_side s (question q))
  side_lettered Left = (accepted_question q a).0.letters_left
  side_lettered Right = (accepted_question q a).0.letters_right

  pub side_read : (s : Side) (at n : ℕ) → at ≡ side_start s (question q) → n ≡ length (on_side s (question q)) → SideRead q s at n
  side_read s at n e h =
      let f : formulas (drop at q) ≡ on_side s (question q) = rw e (side_formulas q s) in
      let t : take n (formulas (drop at q)) ≡ on_side s (question q) = rw (f, h) (take-length (on_side s (question q))) in
      record { enough = rw (f, h) (omega arith); all = t; lettered = rw t (side_lettered s) }

  coded : encode_sequent (question q) ≡ q
  coded = (accepted_question q a).1

  -- the byte before a side's formulas counts them
  pub side_count : (s : Side) → get_or q (side_start s (question q) - 1) 0 ≡ length (on_side s (question q))
  side_count Left = ap (λ (l : List ℕ). get_or l 1 0) (sym coded)
  side_count Right =
      let S = question q in
      let n : 4 + bytes_all S.on_left - 1 ≡ length (encode_side Left S.on_left) + 1 = omega arith in
      ap (λ (l : List ℕ). get_or l (4 + bytes_all S.on_left - 1) 0) (sym coded) ∙ ap (λ (k : ℕ). get_or (encode_sequent S) k 0) n
      ∙ get_or-append-add (encode_side Left S.on_left) (encode_side Right S.on_right) 1 0

  pub side_inside : (s : Side) → (1 ≤ side_start s (question q)) × (side_start s (question q) ≤ length q)
  side_inside s = go s (ap length coded)
    where
      go : (s : Side) → length (encode_sequent (question q)) ≡ length q → (1 ≤ side_start s (question q)) × (side_start s (question q) ≤ length q)
      go Left h = (omega arith, omega (arith, length-append (encode_side Left (question q).on_left) (encode_side Right (question q).on_right)))
      go Right h = (omega arith, omega (arith, length-append (encode_side Left (question q).on_left) (encode_side Right (question q).on_right)))

  -- where the right side starts, from the left side's count
  pub right_start : (n r : ℕ) → n ≡ get_or q 1 0 → r ≡ 2 + bytes_all (take n (formulas (drop 2 q))) → r + 2 ≡ side_start Right (question q)
  right_start n r e h =
      let k : n ≡ length (question q).on_left = e ∙ side_count Left in
      let t : take n (question q).on_left ≡ (question q).on_left = rw k (take-length (question q).on_left) in
      omega (arith, rw t at h)

-- ---- the formula at a place

element_first : (xs : List Formula) (i : ℕ) → i < length xs → get_elem? xs i ≡ some (first_of (drop i xs))
element_first [] i h = absurd (omega arith)
element_first (x ∷ xs) zero h = refl
element_first (x ∷ xs) (suc i) h = element_first xs i (omega arith)

element_none : (xs : List Formula) (i : ℕ) → length xs ≤ i → get_elem? xs i ≡ none
element_none [] i h = refl
element_none (x ∷ xs) zero h = absurd (omega arith)
element_none (x ∷ xs) (suc i) h = element_none xs i (omega arith)

-- what stands where a side's formula starts
pub place_formulas : (q : List ℕ) (s : Side) (i : ℕ) → i ≤ length (on_side s (question q))
    → formulas (drop (start_of s i (question q)) q) ≡ drop i (on_side s (question q))
place_formulas q s i h =
    let e = side_formulas q s in
    let k = skip_formulas q (side_start s (question q)) i (rw e h) in
    rw e at k

written_first : (ys : List Formula) (t : List ℕ) → 1 ≤ length ys → take (bytes (first_of ys)) (encode_all ys ++ t) ≡ encode (first_of ys)
written_first [] t h = absurd (omega arith)
written_first (y ∷ ys) t h = rw (append_assoc (encode y) (encode_all ys) t) (take-append_seam (encode y) (encode_all ys ++ t))

-- "that formula's own bytes"
pub own_bytes_lem : (q : List ℕ) (p : ℕ) → Well q p → take (bytes (formula_at q p)) (drop p q) ≡ encode (formula_at q p)
own_bytes_lem q p w =
    let s = spelt (drop p q) in
    ap (take (bytes (formula_at q p))) s.1 ∙ written_first (formulas (drop p q)) s.0 w

module _ (q : List ℕ) (a : reading q ≡ accepted) (s : Side) (i : ℕ) (h : i < length (on_side s (question q))) where
  pub place_well : Well q (start_of s i (question q))
  place_well = rw (place_formulas q s i (omega arith)) (omega (arith, length-drop i (on_side s (question q))))

  pub place_part : formula_part q s i ≡ record { start = start_of s i (question q); count = bytes (formula_at q (start_of s i (question q))) }
  place_part = rw (a, element_first (on_side s (question q)) i h, place_formulas q s i (omega arith))

  own_part : take (bytes (first_of (drop i (on_side s (question q))))) (drop (start_of s i (question q)) q) ≡ encode (first_of (drop i (on_side s (question q))))
  own_part = rw (place_formulas q s i (omega arith)) at (own_bytes_lem q (start_of s i (question q)) place_well)

  part_own : part_bytes (formula_part q s i) q ≡ formula_bytes q s i
  part_own = rw (a, element_first (on_side s (question q)) i h) own_part

-- ---- the part handed out, for every question and place

part_refused : (q : List ℕ) (s : Side) (i n p : ℕ) → reading q ≡ refused n p → record { start = 0; count = 0 } ≡ formula_part q s i
part_refused q s i n p e = rw e

pub part_none : (q : List ℕ) → reading q ≡ accepted → (s : Side) (i : ℕ) → length (on_side s (question q)) ≤ i → record { start = 0; count = 0 } ≡ formula_part q s i
part_none q a s i h = rw (a, element_none (on_side s (question q)) i h)

pub record Handed (q : List ℕ) (s : Side) (i : ℕ) : Type 0 where
  pub inside : (formula_part q s i).start + (formula_part q s i).count ≤ length q
  pub own : part_bytes (formula_part q s i) q ≡ formula_bytes q s i

handed_accepted : (q : List ℕ) → reading q ≡ accepted → (s : Side) (i : ℕ) → Dec (i < length (on_side s (question q))) → Handed q s i
handed_accepted q a s i (yes h) =
    record {
      inside = rw (place_part q a s i h) (end_inside q (start_of s i (question q)) (place_well q a s i h));
      own = part_own q a s i h;
    }
handed_accepted q a s i (no h) =
    record {
      inside = rw (← part_none q a s i (omega arith)) (omega arith);
      own = rw (a, element_none (on_side s (question q)) i (omega arith));
    }

pub handed : (q : List ℕ) (s : Side) (i : ℕ) → Handed q s i
handed q s i = go (reading q) refl
  where
    go : (r : Reading) → reading q ≡ r → Handed q s i
    go accepted e = handed_accepted q e s i (dec_lt i (length (on_side s (question q))))
    go (refused n p) e = record { inside = rw e (omega arith); own = rw e }

-- the part, or else the empty one
pub part_or_none : (q : List ℕ) → reading q ≡ accepted → (s : Side) (i : ℕ) (o : Option Part) (P : Part → Type 0) (r : Part) → UnwrapsOrElse o P r
    → MatchOption o (length (on_side s (question q)) ≤ i) (λ p. (i < length (on_side s (question q))) × (p ≡ formula_part q s i))
    → ((p : Part) → P p → (p.start ≡ 0) × (p.count ≡ 0))
    → r ≡ formula_part q s i
part_or_none q a s i None P r g h d =
    let e : r ≡ record { start = 0; count = 0 } = λ j. record { start = (d r g).0 j; count = (d r g).1 j } in
    e ∙ part_none q a s i h
part_or_none q a s i (Some p) P r g h d = g ∙ h.1
