-- The first compound among names: where it stands, and part by part.
-- Assumes nothing.
use Rattle.std.proofs.Common.{◌≡◌, refl, sym, ap, ◌∙◌, Bool, true, false, List, [], ◌∷◌, ◌++◌, Some, None, ℕ, zero, suc, ◌+◌, ◌-◌, ◌≤◌, ◌<◌, arith, ltb, length, take, drop, get_or, length-drop, take-add, length-take-le, le-ltb, ltb-true, ltb-false}
use Rattle.calculus.specs.declared.Side.TheVariants.{Left, Right}
use Rattle.calculus.specs.Fold.{choose}
use Rattle.calculus.specs.Limits.{ROOM, LETTERS}
use Rattle.sequent.specs.declared.Running.{Running}
use Rattle.sequent.specs.View.{view}
use Rattle.sequent.specs.Compounds.{Stands, first_in, Clear, FoundAt, Found}

-- ---- where the first stands

pub first_stands : (xs : List ℕ) (j : ℕ) → Stands (λ x. LETTERS ≤ x) xs (Some j) → first_in xs ≡ j
first_stands [] j h = absurd (omega (arith, h.0))
first_stands (x ∷ xs) zero h = rw (le-ltb x LETTERS h.1) refl
first_stands (x ∷ xs) (suc j) h = go (ltb x LETTERS) refl (first_stands xs j (omega (arith, h.0), h.1, λ k l m. h.2 (suc k) (omega arith) m))
  where
    go : (b : Bool) → ltb x LETTERS ≡ b → first_in xs ≡ j → choose b (suc (first_in xs)) 0 ≡ suc j
    go true t r = ap suc r
    go false t r = absurd (h.2 0 (omega arith) (ltb-false x LETTERS t))

pub first_nowhere : (xs : List ℕ) → Stands (λ x. LETTERS ≤ x) xs None → first_in xs ≡ length xs
first_nowhere [] none = refl
first_nowhere (x ∷ xs) none = go (ltb x LETTERS) refl (first_nowhere xs (λ k l m. none (suc k) (omega arith) m))
  where
    go : (b : Bool) → ltb x LETTERS ≡ b → first_in xs ≡ length xs → choose b (suc (first_in xs)) 0 ≡ suc (length xs)
    go true t r = ap suc r
    go false t r = absurd (none 0 (omega arith) (ltb-false x LETTERS t))

-- ---- parts one after the other

pub first_within : (xs : List ℕ) → first_in xs ≤ length xs
first_within [] = omega arith
first_within (x ∷ xs) = go (ltb x LETTERS) (first_within xs)
  where
    go : (b : Bool) → first_in xs ≤ length xs → choose b (suc (first_in xs)) 0 ≤ suc (length xs)
    go true k = omega arith
    go false k = omega arith

pub first_before : (xs ys : List ℕ) → first_in xs < length xs → first_in (xs ++ ys) ≡ first_in xs
first_before [] ys h = absurd (omega arith)
first_before (x ∷ xs) ys h = go (ltb x LETTERS) (first_before xs ys) h
  where
    go : (b : Bool) → (first_in xs < length xs → first_in (xs ++ ys) ≡ first_in xs) → choose b (suc (first_in xs)) 0 < suc (length xs) → choose b (suc (first_in (xs ++ ys))) 0 ≡ choose b (suc (first_in xs)) 0
    go true r k = ap suc (r (omega arith))
    go false r k = refl

pub first_behind : (xs ys : List ℕ) → first_in xs ≡ length xs → first_in (xs ++ ys) ≡ length xs + first_in ys
first_behind [] ys h = omega arith
first_behind (x ∷ xs) ys h = go (ltb x LETTERS) (first_behind xs ys) h
  where
    go : (b : Bool) → (first_in xs ≡ length xs → first_in (xs ++ ys) ≡ length xs + first_in ys) → choose b (suc (first_in xs)) 0 ≡ suc (length xs) → choose b (suc (first_in (xs ++ ys))) 0 ≡ suc (length xs) + first_in ys
    go true r k = omega (arith, r (omega arith))
    go false r k = absurd (omega arith)

-- the first compound is one
pub first_compound : (xs : List ℕ) → first_in xs < length xs → LETTERS ≤ get_or xs (first_in xs) 0
first_compound [] h = absurd (omega arith)
first_compound (x ∷ xs) h = go (ltb x LETTERS) refl (first_compound xs) h
  where
    go : (b : Bool) → ltb x LETTERS ≡ b → (first_in xs < length xs → LETTERS ≤ get_or xs (first_in xs) 0)
        → choose b (suc (first_in xs)) 0 < suc (length xs) → LETTERS ≤ get_or (x ∷ xs) (choose b (suc (first_in xs)) 0) 0
    go true t r k = r (omega arith)
    go false t r k = ltb-false x LETTERS t

module _ (xs ys : List ℕ) (i : ℕ) (e : i ≡ first_in (xs ++ ys)) where
  pub in_first : i < length xs → i ≡ first_in xs
  in_first h = go (ltb (first_in xs) (length xs)) refl
    where
      go : (b : Bool) → ltb (first_in xs) (length xs) ≡ b → i ≡ first_in xs
      go true t = e ∙ first_before xs ys (ltb-true _ _ t)
      go false t = let z : first_in xs ≡ length xs = omega (arith, ltb-false (first_in xs) (length xs) t, first_within xs) in absurd (omega (arith, first_behind xs ys z))

  pub past_first : length xs ≤ i → first_in xs ≡ length xs
  past_first h = go (ltb (first_in xs) (length xs)) refl
    where
      go : (b : Bool) → ltb (first_in xs) (length xs) ≡ b → first_in xs ≡ length xs
      go true t = let z : first_in xs < length xs = ltb-true _ _ t in absurd (omega (arith, first_before xs ys z))
      go false t = omega (arith, ltb-false (first_in xs) (length xs) t, first_within xs)

  pub in_second : length xs ≤ i → i ≡ length xs + first_in ys
  in_second h = e ∙ first_behind xs ys (past_first h)

-- ---- a running sequent

-- its names from a place of the list on
abbrev pub behind : Running → List ℕ → ℕ → List ℕ
behind s l from = take (s.left.count + s.right.count - from) (drop from l)

module _ (s : Running) (l : List ℕ) (full : length l ≡ ROOM) (room : s.left.count + s.right.count ≤ ROOM) (from : ℕ) (clear : Clear from l s) where
  pub behind_count : from + length (behind s l from) ≡ s.left.count + s.right.count
  behind_count = omega (arith, clear.inside, length-drop from l, length-take-le (s.left.count + s.right.count - from) (drop from l) (omega (arith, length-drop from l)))

  module _ (i : ℕ) (e : i ≡ from + first_in (behind s l from)) where
    first_of_both : i ≡ first_in ((view s l).on_left ++ (view s l).on_right)
    first_of_both =
        let n : from + (s.left.count + s.right.count - from) ≡ s.left.count + s.right.count = omega (arith, clear.inside) in
        let parts : take (s.left.count + s.right.count) l ≡ take from l ++ behind s l from = ap (λ (m : ℕ). take m l) (sym n) ∙ take-add from (s.left.count + s.right.count - from) l in
        let z : length (take from l) ≡ from = length-take-le from l (omega (arith, clear.inside)) in
        let b = first_behind (take from l) (behind s l from) (clear.letters ∙ sym z) in
        let f : first_in (take from l ++ behind s l from) ≡ i = omega (arith, b, z, e) in
        sym f ∙ ap first_in (sym parts ∙ take-add s.left.count s.right.count l)

    left_count : length (view s l).on_left ≡ s.left.count
    left_count = length-take-le s.left.count l (omega arith)

    right_count : length (view s l).on_right ≡ s.right.count
    right_count = length-take-le s.right.count (drop s.left.count l) (omega (arith, length-drop s.left.count l))

    pub found_left : i < s.left.count → FoundAt (view s l) Left i
    found_left h =
        let k : i < length (view s l).on_left = omega (arith, left_count) in
        (in_first (view s l).on_left (view s l).on_right i first_of_both k, k)

    module _ (h : s.left.count ≤ i) where
      left_none : first_in (view s l).on_left ≡ length (view s l).on_left
      left_none = past_first (view s l).on_left (view s l).on_right i first_of_both (omega (arith, left_count))

      right_first : i ≡ s.left.count + first_in (view s l).on_right
      right_first = rw left_count at (in_second (view s l).on_left (view s l).on_right i first_of_both (omega (arith, left_count)))

      pub found_right : i < s.left.count + s.right.count → FoundAt (view s l) Right (i - s.left.count)
      found_right k = (left_none, omega (arith, right_first), omega (arith, right_count))

      pub found_nowhere : i ≡ s.left.count + s.right.count → Found (view s l) None
      found_nowhere k = (left_none, omega (arith, right_first, right_count))
