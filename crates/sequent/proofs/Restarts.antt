-- What was found, and where its premises are searched from.
-- Assumes nothing.
use Rattle.std.proofs.Common.{◌≡◌, sym, ap, ◌∙◌, List, ◌++◌, ℕ, suc, ◌+◌, ◌≤◌, ◌<◌, arith, length, take, drop, get_or, length-append, length-take, length-drop, take-append-drop, take_at, take-take, length-take-le, get_or-take, get_or-drop}
use Rattle.calculus.specs.declared.Side.{Side}
use Rattle.calculus.specs.declared.Side.TheVariants.{Left, Right}
use Rattle.calculus.specs.Limits.{ROOM, LETTERS}
use Rattle.calculus.specs.Syntax.{Seq}
use Rattle.calculus.specs.Table.{Put, on, premise}
use Rattle.sequent.specs.declared.Running.{Running}
use Rattle.sequent.specs.View.{view, count_of, slot_of, start_of}
use Rattle.sequent.specs.Compounds.{first_in, FoundAt}
use Rattle.sequent.proofs.Firsts.{first_compound, past_first}

-- names that start a side start the list
same_start : (k n : ℕ) (l xs ys : List ℕ) → length xs ≡ k → take n l ≡ xs ++ ys → (k ≤ n) × (take k l ≡ xs)
same_start k n l xs ys e h =
    let low : k ≤ n = omega (arith, ap length h, length-take n l, length-append xs ys) in
    (low, sym (take-take k n l low) ∙ ap (take k) h ∙ take_at xs ys k e)

none_before : (xs : List ℕ) → first_in xs < length xs → first_in (take (first_in xs) xs) ≡ first_in xs
none_before xs h =
    let k = first_in xs in
    let z : length (take k xs) ≡ k = length-take-le k xs (omega arith) in
    past_first (take k xs) (drop k xs) k (ap first_in (sym (take-append-drop k xs))) (omega arith) ∙ z

module _ (s : Running) (old : List ℕ) (full : length old ≡ ROOM) (room : s.left.count + s.right.count ≤ ROOM) where
  left_count : length (view s old).on_left ≡ s.left.count
  left_count = length-take-le s.left.count old (omega arith)

  right_count : length (view s old).on_right ≡ s.right.count
  right_count = length-take-le s.right.count (drop s.left.count old) (omega (arith, length-drop s.left.count old))

  -- a premise may be made there
  pub found_inside : (t : Side) (i : ℕ) → FoundAt (view s old) t i → i < count_of t s
  found_inside Left i h = omega (arith, h.1, left_count)
  found_inside Right i h = omega (arith, h.2, right_count)

  -- its name is a compound's, at its place of the list
  pub found_name : (t : Side) (i : ℕ) → FoundAt (view s old) t i → LETTERS ≤ get_or old (slot_of t i s) 0
  found_name Left i h =
      let xs = (view s old).on_left in
      let f : LETTERS ≤ get_or xs i 0 = rw h.0 (first_compound xs (rw h.0 at h.1)) in
      rw (get_or-take s.left.count old i 0 (omega (arith, found_inside Left i h))) at f
  found_name Right i h =
      let xs = (view s old).on_right in
      let f : LETTERS ≤ get_or xs i 0 = rw h.1 (first_compound xs (rw h.1 at h.2)) in
      rw (get_or-take s.right.count (drop s.left.count old) i 0 (omega (arith, found_inside Right i h)), get_or-drop s.left.count old i 0) at f

  -- what stands before the place is kept, and there is no compound in it
  pub restarts : (t : Side) (i : ℕ) → FoundAt (view s old) t i → (ps : List (Put ℕ)) (r : Running) (new : List ℕ)
      → view r new ≡ premise t i (view s old) ps → (start_of t i s ≤ r.left.count) × (first_in (take (start_of t i s) new) ≡ start_of t i s)
  restarts Left i h ps r new e =
      let xs = take s.left.count old in
      let z : length (take i xs) ≡ i = length-take-le i xs (omega (arith, h.1)) in
      let w = same_start i r.left.count new (take i xs) (on Left ps ++ drop (suc i) xs) z (ap (λ (S : Seq ℕ). S.on_left) e) in
      (w.0, rw (w.1, h.0) (none_before xs (rw h.0 at h.1)))
  restarts Right i h ps r new e =
      let w = same_start s.left.count r.left.count new (take s.left.count old) (on Left ps) left_count (ap (λ (S : Seq ℕ). S.on_left) e) in
      (w.0, ap first_in w.1 ∙ h.0 ∙ left_count)
